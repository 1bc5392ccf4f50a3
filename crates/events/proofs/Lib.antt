-- What is so of every run.
pub mod Counted
pub mod Moves
pub mod Runs
pub mod Tallied

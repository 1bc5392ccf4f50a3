-- What a list of events counts: of one step, and of the list.
pub mod Examples
pub mod Plans
pub mod Waiting
pub mod Steps
pub mod Theorem
pub mod Own
pub mod Commits
pub mod Once
pub mod Share

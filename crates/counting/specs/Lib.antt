-- What the program's answers count.
pub mod Tallied

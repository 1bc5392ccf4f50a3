-- What the marks of S-5 mean: of one step, and of a list of events.
pub mod Views
pub mod Refused
pub mod Theorem

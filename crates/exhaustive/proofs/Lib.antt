pub mod NamedCounts
pub mod Lists
pub mod Moves
pub mod Turns
pub mod Beyond
pub mod Theorem

-- The settling run.
pub mod Settles
pub mod Advances

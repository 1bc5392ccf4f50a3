-- What a settling run is.
pub mod Settle
pub mod Steps

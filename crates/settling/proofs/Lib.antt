-- Laws of a settling run.
pub mod Within
pub mod Idle
pub mod Steps

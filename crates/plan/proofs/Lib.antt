-- Laws of plans.
pub mod Cuts
pub mod Choices

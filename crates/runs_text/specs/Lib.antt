-- What is printed for a walk.
pub mod RunsText
pub mod Examples

-- Laws of a step that is done in place.
pub mod Given
pub mod Chosen

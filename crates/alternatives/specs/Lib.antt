-- What any step answers and leaves in an image.
pub mod Gives

-- What a list of steps on an image is.
pub mod List

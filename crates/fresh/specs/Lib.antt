-- How the image of a fresh system comes to be.
pub mod Fresh

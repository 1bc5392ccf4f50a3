-- Laws of the alternatives of Figure 3 on an image.
pub mod Carrying
pub mod Alternatives
pub mod Answering

-- The image of a system in bytes.
pub mod Image
pub mod Places

-- A run of calls on one image.
pub mod Calls

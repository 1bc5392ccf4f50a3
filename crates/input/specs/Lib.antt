-- Reading an input whole, and what is told where that fails.
pub mod Failure
pub mod Received

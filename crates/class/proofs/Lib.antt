pub mod Bounds
pub mod Calls
pub mod Claims
pub mod Gathering
pub mod Reading
pub mod Taking

pub mod Laws
pub mod Typing
pub mod Bounds
pub mod Claims

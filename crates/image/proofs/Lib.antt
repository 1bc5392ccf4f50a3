pub mod Laws
pub mod Parts
pub mod Changes
pub mod Shape

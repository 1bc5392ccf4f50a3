-- Laws of the parts of a step.
pub mod Laws
pub mod Named

-- The bound on the takes and answers that are ever done, and that a settling run never uses its budget up.
pub mod Bound
pub mod Settling

-- What is done for one process of a set.
pub mod Named

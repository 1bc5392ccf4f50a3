-- Laws of a list of steps.
pub mod Lists

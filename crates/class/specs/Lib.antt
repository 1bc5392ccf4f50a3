-- What is printed for the sheets of a class.
pub mod Class
pub mod Examples
pub mod Names
pub mod Reading

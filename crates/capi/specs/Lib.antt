-- What the functions for other languages answer and leave in what they were lent.
pub mod Calls

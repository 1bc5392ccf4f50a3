-- What the marks of S-5 mean, told from the list of events.
pub mod Trust

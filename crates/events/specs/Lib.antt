-- A run is a list of events; what it is made of, and what it counts.
pub mod Event
pub mod Counts
pub mod Tallied

-- All orders up to a depth.
pub mod Orders
pub mod Walks

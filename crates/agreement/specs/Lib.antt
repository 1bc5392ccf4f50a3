-- The agreement rule of document 01, and demand 3.
pub mod Accepted
pub mod Book
pub mod Demand

-- "I tried them all".
pub mod Exhaustive
pub mod NamedCounts

-- Demand 3: what is so of every system that steps reach, that each transition keeps it, and the book that it leaves.
pub mod Acceptances
pub mod Invariant
pub mod Changes
pub mod Steps
pub mod Beginning
pub mod Reachable
pub mod Pages
pub mod Feed
pub mod Theorem

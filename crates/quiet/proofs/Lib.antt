-- When it is quiet, it is agreed: what is so of every system that steps reach, that each transition keeps it, and what it says of rest.
pub mod Opening
pub mod Remains
pub mod Proposals
pub mod Turns
pub mod Standing
pub mod Pursuit
pub mod PursuitSteps
pub mod Orderly
pub mod Beginning
pub mod Resting
pub mod Theorem
pub mod AfterSettling
pub mod AfterRest
pub mod Untold
pub mod Examples

-- When it is quiet, it is agreed.
pub mod Quiet
pub mod AfterSettling
pub mod AfterRest
pub mod Examples

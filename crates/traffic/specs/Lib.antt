-- The messages and proposals that a list of events counts.
pub mod Traffic
pub mod Examples

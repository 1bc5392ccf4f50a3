-- Document 01's table: its parts, its fresh state, and how a message is sent in it.
pub mod Process
pub mod Refusal
pub mod Outcome
pub mod System
pub mod Fresh

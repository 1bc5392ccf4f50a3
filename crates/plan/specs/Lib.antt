-- Figure 3, guarded command by guarded command: what the acting process does, and which alternative that is; and how a
-- step is cut.
pub mod Fields
pub mod Plan
pub mod Choice
pub mod Cut
pub mod Scope
pub mod ByValue

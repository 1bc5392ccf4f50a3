-- One step of any kind: document 01's refusal table around the plans of Figure 3; and when a system is at rest.
pub mod Step
pub mod Rest

-- When a system is sound.
pub mod Sound

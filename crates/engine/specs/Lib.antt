-- What a step on an image answers and leaves in it, where the system is taken to be sound.
pub mod Engine

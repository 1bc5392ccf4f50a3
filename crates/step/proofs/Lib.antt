-- What every proof about steps begins with: the cases of a step, split once, and that soundness is kept.
pub mod Frames
pub mod Soundness
pub mod Cases
pub mod Effects
pub mod Weights
pub mod TakenOff
pub mod Broadcasts
pub mod Trust
pub mod Carried
pub mod Inversion
pub mod SoundSteps
pub mod Beginning
pub mod Outcomes
pub mod Stakes

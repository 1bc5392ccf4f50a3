pub mod Laws
pub mod Histories

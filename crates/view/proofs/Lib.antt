pub mod Chains
pub mod Laws
pub mod Members
pub mod Sets
pub mod Sums
pub mod Table
pub mod Views

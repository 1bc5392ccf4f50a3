pub mod Laws
pub mod Forms
pub mod Parsing
pub mod FirstBytes
pub mod GoodLines
pub mod Claims

pub mod Printed
pub mod Started
pub mod Told

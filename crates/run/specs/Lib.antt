-- What is printed for a sheet.
pub mod Output

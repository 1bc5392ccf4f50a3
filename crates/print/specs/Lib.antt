-- What is printed of a sheet, and what typing it on a page does.
pub mod Text
pub mod Print
pub mod Page
pub mod Examples

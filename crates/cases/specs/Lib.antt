-- The worked sheets of document 01, single steps at the points easily misread, and the agreement rule at work on one sheet.
pub mod Systems
pub mod Worked
pub mod Sheets
pub mod Points
pub mod Rule
pub mod Cuts
pub mod Doubts
pub mod Settles

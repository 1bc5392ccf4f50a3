-- The trainee's sheet of document 01: its lines, and what each says.
pub mod Lines
pub mod Reader
pub mod Grammar
pub mod Parse
pub mod Cursor
pub mod Examples

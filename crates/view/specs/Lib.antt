-- What a view is, and the tests, loops and lists that every crate's definitions are written with.
pub mod Logic
pub mod View

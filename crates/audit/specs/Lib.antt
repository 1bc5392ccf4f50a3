-- What a sheet counts is what its steps count, and no count of a class passes its end.
pub mod Audit

-- What a tally counts, and the share of its proposals that were committed.
pub mod Tally
pub mod Share

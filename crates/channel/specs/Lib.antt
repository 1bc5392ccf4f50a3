-- What a channel holds: a list of messages, first in, first out.
pub mod Channel

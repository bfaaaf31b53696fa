-- What stands at a position of a run of words, and reading on.
pub mod Found
pub mod Cover
pub mod Private

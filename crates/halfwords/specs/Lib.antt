-- The halfwords of a value, and how many of them are a given one.
pub mod Halfwords

-- The one number of a word written again.
pub mod Number

-- The one number that each of the entries for labels answers.
pub mod Number

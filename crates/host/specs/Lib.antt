-- The one number that every entry of the host answers.
pub mod Number
pub mod Private

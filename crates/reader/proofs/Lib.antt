-- What stands at a position by cases, the loop over the MOVK words, what is found in a run whole and in pieces, and worked values.
pub mod Finds
pub mod Joins
pub mod Constants
pub mod Cover
pub mod Local
pub mod Determined
pub mod Examples

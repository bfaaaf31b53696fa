-- What a record says, which answer says it, and what a whole input prints.
pub mod Records
pub mod Answers
pub mod Inputs

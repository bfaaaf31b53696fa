-- The laws of words, fields, answers and tables, for the proofs of other crates.
pub mod Answers
pub mod Contracts
pub mod Determined
pub mod Examples
pub mod Fields
pub mod Low
pub mod Runs
pub mod Table

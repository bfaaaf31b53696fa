-- Laws that belong to no one function, what was asked for, and that each contract has one answer.
pub mod Laws
pub mod Cleared
pub mod Distances
pub mod Answers
pub mod Kept
pub mod Demands
pub mod Determined
pub mod Examples

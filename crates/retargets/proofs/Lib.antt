-- Laws that belong to no one function, what is asked for, and that each contract has one answer.
pub mod Answers
pub mod Demands
pub mod Determined

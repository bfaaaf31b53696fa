-- Laws that belong to no one function, what was asked for, and that each contract has one answer.
pub mod Targets
pub mod Demands
pub mod Pages
pub mod Determined
pub mod Examples

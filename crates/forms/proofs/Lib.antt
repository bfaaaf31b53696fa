-- Laws that belong to no one function, that each contract has one answer, and worked values.
pub mod Formats
pub mod Instructions
pub mod Determined
pub mod Examples

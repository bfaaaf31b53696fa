-- What a word is by its fields and by cases, that the contract has one answer, and worked values.
pub mod Forms
pub mod Logicals
pub mod Cases
pub mod Unknowns
pub mod Readings
pub mod Determined
pub mod Examples

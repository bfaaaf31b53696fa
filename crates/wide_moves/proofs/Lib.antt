-- A wide move by the fields of a word, that each contract has one answer, and worked values.
pub mod Wides
pub mod Again
pub mod Determined
pub mod Examples

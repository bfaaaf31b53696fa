-- Every word written again, that the contract has one answer, and worked values.
pub mod Displaced
pub mod Again
pub mod Determined
pub mod Examples

-- The laws of the logical word, for the proofs of other crates.
pub mod Demands
pub mod Determined
pub mod Examples
pub mod Word

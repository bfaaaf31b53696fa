-- The laws of lines, for the proofs of other crates; those of the private writers stay here.
mod Puts
pub mod Determined
pub mod Digits
pub mod Examples
pub mod Lines
pub mod Meaning
pub mod Parts

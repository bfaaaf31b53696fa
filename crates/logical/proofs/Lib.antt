-- The laws of the encoder, for the proofs of other crates.
pub mod Demands
pub mod Rules
pub mod Determined
pub mod Examples
pub mod Model
pub mod Laws
pub mod Search
mod Rotated

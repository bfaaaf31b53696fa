-- The laws of the decoder and the normaliser, for the proofs of other crates.
pub mod Demands
pub mod Rules
pub mod Determined
pub mod Examples
pub mod Laws

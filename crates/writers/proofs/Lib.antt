-- The laws of the writers, for the proofs of other crates.
mod Stores
mod Units
pub mod Determined
pub mod Writes

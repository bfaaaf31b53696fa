-- The laws of small immediates, and what the contracts amount to.
pub mod Laws
pub mod Determined
pub mod Demands
pub mod Examples

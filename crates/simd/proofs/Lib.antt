-- The laws of kinds, elements and element indices, and what the contract amounts to.
pub mod Laws
pub mod Determined
pub mod Demands
pub mod Examples

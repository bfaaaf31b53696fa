-- The laws of size ops, and what the contract amounts to.
pub mod Tables
pub mod Determined
pub mod Demands
pub mod Examples

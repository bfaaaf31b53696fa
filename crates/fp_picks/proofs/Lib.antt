-- That the contract of opcode picks allows one answer, and what it amounts to.
pub mod Determined
pub mod Demands
pub mod Examples

-- The laws of registers.
pub mod Determined
pub mod Rule

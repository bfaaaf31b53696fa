-- Document 01's module 2.
pub mod Checks
pub mod Shifts

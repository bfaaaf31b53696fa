-- The words of document 01's module 5, and what the inner functions give.
pub mod Moves
pub mod Steps
pub mod Register

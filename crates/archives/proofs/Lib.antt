-- The words of bytes, and a turn of the loop that prints a piece.
pub mod Gathered
pub mod Again
pub mod Told

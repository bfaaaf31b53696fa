-- A turn of the loop that prints a block.
pub mod Again

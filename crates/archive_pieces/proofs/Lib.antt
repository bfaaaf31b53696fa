-- The laws of reading on: every step goes forward, and pieces are told as the whole is.
pub mod Forward
pub mod Lone
pub mod Whole
pub mod Cuts
pub mod Determined
pub mod Examples

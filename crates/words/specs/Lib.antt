-- Document 01's numbers, what an entry says, words by value, and places in code.
pub mod Said
pub mod Answer
pub mod Bit
pub mod Listed
pub mod Place

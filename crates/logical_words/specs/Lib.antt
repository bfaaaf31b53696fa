-- The logical word, from what the encoder says, and what it does.
pub mod Word
pub mod Meaning
pub mod Operation

-- A wide move read from a word, and the word of its fields.
pub mod Wide

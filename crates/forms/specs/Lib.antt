-- Which words are instructions of a displacement format.
pub mod Format
pub mod Form
pub mod Private

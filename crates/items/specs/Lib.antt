-- What one word is.
pub mod Items
pub mod Private

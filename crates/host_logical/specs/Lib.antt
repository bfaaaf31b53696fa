-- What the entries on logical immediates answer.
pub mod Fields

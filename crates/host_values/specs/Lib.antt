-- What the entries on values say.
pub mod Values

-- What the entries for small immediates say.
pub mod Says
pub mod Steps

-- What targets are asked for: what the entries say.
pub mod Target

-- An item written again.
pub mod Again

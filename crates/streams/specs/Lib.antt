-- What the contracts cite.
pub mod Streams

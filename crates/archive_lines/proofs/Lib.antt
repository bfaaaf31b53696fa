-- The laws of an item's line.
pub mod Lines
pub mod Determined
pub mod Examples

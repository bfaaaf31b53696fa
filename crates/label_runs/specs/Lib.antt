-- A sheet in three runs of numbers.
pub mod Flat

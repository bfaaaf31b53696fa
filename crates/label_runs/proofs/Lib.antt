-- Laws of a sheet in three runs of numbers.
pub mod Flat
pub mod Determined

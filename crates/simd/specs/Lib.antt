-- The numbers of kinds and elements, and what the entry for element indices says.
pub mod Kinds
pub mod Lmh

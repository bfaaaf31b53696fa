-- A pass over the halfwords, and that each contract allows one answer.
pub mod Pass
pub mod Determined

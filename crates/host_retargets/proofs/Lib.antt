-- What a call leaves and what Arm makes of it, that each contract allows one answer, and the laws below them.
pub mod Words
pub mod Boundary
pub mod Determined

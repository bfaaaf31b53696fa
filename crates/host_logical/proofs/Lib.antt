-- What a call leaves and what Arm makes of it, that each contract allows one answer, and the laws below them.
pub mod Reading
pub mod Demands
pub mod Boundary
pub mod Decoding
pub mod Determined

-- How the one number is read, what any call leaves, what Arm makes of the moves, that each contract allows one answer, and the laws below them.
pub mod Laws
pub mod Reading
pub mod Demands
pub mod Boundary
pub mod Determined

-- What a call leaves and what the reader makes of it, and that each contract allows one answer.
pub mod Demands
pub mod Boundary
pub mod Determined

-- What a host reads from each answer, that each contract allows one, and the laws below them.
pub mod Laws
pub mod Demands
pub mod Determined

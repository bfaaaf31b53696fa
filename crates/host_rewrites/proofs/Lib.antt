-- What a host reads, that the contract allows one answer, worked values, and the laws below them.
pub mod Laws
pub mod Boundary
pub mod Determined
pub mod Examples

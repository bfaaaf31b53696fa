-- What a host reads from the entries for labels, and that each contract has one answer.
pub mod Reading
pub mod Boundary
pub mod Determined

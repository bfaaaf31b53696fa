-- The laws about Arm's definitions, for the proofs of other crates, and worked values.
pub mod Examples
pub mod Worked
pub mod Tests
-- DecodeBitMasks
pub mod Trailing
pub mod Lengths
pub mod Runs
pub mod Fields
pub mod Masks
pub mod Laws
pub mod Shortest
-- logical words
pub mod Logical
-- wide moves
pub mod Wide
-- displacements
pub mod SignExtends
-- 8-bit immediates
pub mod Expand
pub mod Bytes

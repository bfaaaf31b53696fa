-- What a reader must believe: Arm's definitions, from the Arm Architecture Reference Manual for A-profile, A64.
pub mod Bits
pub mod BitMasks
pub mod MoveWide
pub mod LogicalImmediate
pub mod Displacements
pub mod FixedBits
pub mod Immediates
-- not Arm's: what the contracts of private functions cite
pub mod Elements
pub mod Imm8

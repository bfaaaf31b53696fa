-- What a logical word does, by Arm's decoder. Assumes nothing.
use Rattle.std.specs.Prelude.{◌≡◌, List, [], ◌∷◌, ℕ, ◌%◌, ◌^◌, get_or}
use Rattle.std.proofs.Math.Option.{some}
use Rattle.arm.specs.LogicalImmediate.{LogicalOp, AND, ORR, EOR, ANDS, Logical, decode_logical}
use Rattle.arm.specs.MoveWide.{datasize}
use Rattle.logical.specs.Answer.{Decodes}

-- "operation 0 AND, 1 ORR, 2 EOR, 3 ANDS"
abbrev pub operations : List LogicalOp
operations = AND ∷ ORR ∷ EOR ∷ ANDS ∷ []

-- Arm decodes x: the operation asked for, at the width, with the low bits of v as its immediate, on the registers
pub record Means (x operation v w rn rd : ℕ) : Type 0 where
  pub word : Logical
  pub decoded : decode_logical x ≡ some word
  pub op : word.op ≡ get_or operations operation AND
  pub size : datasize word.sf ≡ w
  pub imm : Decodes w word.N word.imms word.immr (v % 2 ^ w)
  pub Rn : word.Rn ≡ rn
  pub Rd : word.Rd ≡ rd

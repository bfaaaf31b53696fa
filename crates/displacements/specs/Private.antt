-- What only the contracts of private functions cite. Assumes nothing.
use Rattle.std.specs.Prelude.{ℕ, ◌+◌, ◌-◌, ◌*◌, ◌<◌, ◌≤◌}
use Rattle.arm.specs.Bits.{SignExtend}
use Rattle.displacements.specs.Forms.{Form, field_in, step}

-- the 64 bits of the distance of a word
abbrev pub offset_in : Form → ℕ → ℕ
offset_in f w = SignExtend (f.bits + f.scale) (field_in f w * step f)

-- the rule of the table: the two parts of the field do not meet, and end in the word; a distance has fewer than 64 bits
pub record Sound (f : Form) : Type 0 where
  pub some : 1 ≤ f.bits
  pub parts : f.low ≤ f.bits
  pub apart : f.at + (f.bits - f.low) ≤ 29
  pub inside : f.low ≤ 3
  pub narrow : f.bits + f.scale < 63

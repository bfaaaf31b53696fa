-- The six formats, and the field of a word at a format. Assumes nothing.
use Rattle.std.specs.Prelude.{ℕ, ◌+◌, ◌-◌, ◌*◌, ◌/◌, ◌%◌, ◌^◌, List, [], ◌∷◌, ℤ, pos, negsuc, slice_index_or}

-- distances in steps of 2 ^ scale bytes, in a field of `bits` bits, of which the low ones, `low` in number, stand at bit 29 and the rest at
-- bit `at`
pub record Form : Type 0 where
  pub scale : ℕ
  pub bits : ℕ
  pub low : ℕ
  pub at : ℕ

-- branch 26, branch 19, branch 14, ADR 21, ADRP 21, LDR 19
abbrev pub forms : List Form
forms =
    record { scale = 2; bits = 26; low = 0; at = 0 }
    ∷ record { scale = 2; bits = 19; low = 0; at = 5 }
    ∷ record { scale = 2; bits = 14; low = 0; at = 5 }
    ∷ record { scale = 0; bits = 21; low = 2; at = 5 }
    ∷ record { scale = 12; bits = 21; low = 2; at = 5 }
    ∷ record { scale = 2; bits = 19; low = 0; at = 5 }
    ∷ []

abbrev pub form_of : ℕ → Form
form_of n = slice_index_or forms n (record { scale = 0; bits = 0; low = 0; at = 0 })

-- the step in bytes, and half of the bytes that the field spans
abbrev pub step : Form → ℕ
step f = 2 ^ f.scale

abbrev pub reach : Form → ℕ
reach f = 2 ^ (f.bits + f.scale - 1)

-- the least distance is - reach (`negsuc n` is - n - 1), the greatest one step below reach
abbrev pub least : Form → ℤ
least f = negsuc (reach f - 1)

abbrev pub greatest : Form → ℤ
greatest f = pos (reach f - step f)

-- the field of a word: the rest, then the low bits
abbrev pub field_in : Form → ℕ → ℕ
field_in f w = w / 2 ^ f.at % 2 ^ (f.bits - f.low) * 2 ^ f.low + w / 2 ^ 29 % 2 ^ f.low

-- a word whose field is clear, with a number below 2 ^ bits in the field
abbrev pub put_in : Form → ℕ → ℕ → ℕ
put_in f w v = w + v / 2 ^ f.low * 2 ^ f.at + v % 2 ^ f.low * 2 ^ 29

-- a word with nothing in its field, every other bit as it was
abbrev pub clear_in : Form → ℕ → ℕ
clear_in f w = w - put_in f 0 (field_in f w)

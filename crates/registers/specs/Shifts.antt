-- The shift map. Assumes nothing.
use Rattle.std.specs.Prelude.{ℕ, cond, List, [], ◌∷◌, nat_lt, slice_index}
use Rattle.words.specs.Said.{Said, ok, no}

-- "at 0..15: 3, 255 seven times, 2, 255 three times, 6, 7, 255, 255"
abbrev pub shifts : List ℕ
shifts = 3 ∷ 255 ∷ 255 ∷ 255 ∷ 255 ∷ 255 ∷ 255 ∷ 255 ∷ 2 ∷ 255 ∷ 255 ∷ 255 ∷ 6 ∷ 7 ∷ 255 ∷ 255 ∷ []

-- "Above 15: refusal 7. An entry of 255 is returned as it is."
abbrev pub shift_of : ℕ → Said ℕ
shift_of n = cond (nat_lt 15 n) (no 7) (ok (slice_index shifts n))

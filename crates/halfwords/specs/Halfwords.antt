-- The halfwords of a value and their count; document 01's sentence stands in quotes. Assumes nothing.
use Rattle.std.specs.Prelude.{◌≡◌, cond, List, [], ◌∷◌, ℕ, ◌+◌, ◌*◌, ◌/◌, ◌%◌, ◌^◌, eqb}
use Rattle.halfwords.specs.declared.Counts.{Counts}

-- "A 64-bit value is cut into four 16-bit halfwords": number k, from the lowest on
abbrev pub half : ℕ → ℕ → ℕ
half v k = v / 2 ^ (16 * k) % 2 ^ 16

-- how many halfwords are f
abbrev pub same : ℕ → ℕ → ℕ
same f h = cond (eqb h f) 1 0

unfoldable pub count : ℕ → ℕ → ℕ
count f v = same f (half v 0) + same f (half v 1) + same f (half v 2) + same f (half v 3)

-- ---- what the functions give

-- each halfword as a u32, lowest first
abbrev pub halves : ℕ → List ℕ
halves v = half v 0 ∷ half v 1 ∷ half v 2 ∷ half v 3 ∷ []

abbrev pub Halved : ℕ → List ℕ → Type 0
Halved v r = r ≡ halves v

-- how many are zero and how many are FFFF
pub record Counted (v : ℕ) (r : Counts) : Type 0 where
  pub zeros : r.zeros ≡ count 0 v
  pub ones : r.ones ≡ count 0xFFFF v

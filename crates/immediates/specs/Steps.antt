-- What a private function gives, and whether there is an answer; no contract of a public one cites it. Assumes nothing.
use Rattle.std.specs.Prelude.{Bool, true, false, cond, ℕ, eqb}
use Rattle.words.specs.Said.{Said, ok, no}

-- 8 bits that expand to e: taken where that is x
abbrev pub settled : ℕ → ℕ → ℕ → Said ℕ
settled b e x = cond (eqb e x) (ok b) (no 3)

-- there is an answer
abbrev pub is_ok : Said ℕ → Bool
is_ok (ok b) = true
is_ok (no n) = false

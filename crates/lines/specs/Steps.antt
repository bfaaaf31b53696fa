-- What the private writers say of themselves; `line`'s contract does without. Assumes nothing.
use Rattle.std.specs.Prelude.{◌≡◌, List, [], ◌∷◌, ℕ, Bool, cond, ◌+◌, ◌≤◌, length}
use Rattle.std.proofs.lemmas.List.Edits.{sets}
use Rattle.lines.specs.Text.{hex8, decimal}
use Rattle.lines.specs.declared.Cursor.{Cursor}
use Rattle.lines.specs.declared.Spelling.{Spelling}
use Rattle.lines.specs.declared.Spelling.TheVariants.{Hex, Decimal}

-- the bytes vs, at most so many, were put into the run o from `at` on: r is the place past them, o' the run then
pub record Put (most : ℕ) (o : List ℕ) (at : ℕ) (vs : List ℕ) (r : ℕ) (o' : List ℕ) : Type 0 where
  pub past : r ≡ at + length vs
  pub holds : o' ≡ sets o at vs
  pub same : length o' ≡ length o
  pub short : r ≤ at + most

-- so many bytes are left behind a cursor's place
abbrev pub Room : ℕ → Cursor → Type 0
Room n c = c.at + n ≤ length c.out.now

-- the bytes vs, at most so many, were put at a cursor's place, into the same run
pub record Wrote (most : ℕ) (c : Cursor) (vs : List ℕ) (d : Cursor) : Type 0 where
  pub run : d.out.ghost_name ≡ c.out.ghost_name
  pub put : Put most c.out.now c.at vs d.at d.out.now

-- a number of a list as a word, or in decimal
abbrev pub spell : Spelling → ℕ → List ℕ
spell Hex = hex8
spell Decimal = decimal

-- a space and a number, if it is there
abbrev pub part : (ℕ → List ℕ) → Bool → ℕ → List ℕ
part f there n = cond there (32 ∷ f n) []

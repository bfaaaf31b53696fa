-- What the entries' answers are to a record. Assumes nothing.
use mathlib.Core.Path.{◌≡◌, refl, sym, ap, ◌∙◌}
use mathlib.Core.Bool.{Bool, true, false, not, cond, ◌&&◌}
use lib.Dec.{eqb}
use lib.ListN.{get_or}
use Rattle.std.proofs.Common.{ne_eqb}
use mathlib.Core.List.{List}
use Prim.Native.Nat.{ℕ}
use Rattle.words.specs.Said.{Said, ok, no}
use Rattle.words.specs.Listed.{list_of, words_of, listed, packed}
use Rattle.words.specs.declared.Words.{Words}
use Rattle.words.proofs.Answers.{listed_packed}
use Rattle.lines.specs.Item.{Item, bad_mark}
use Rattle.lines.specs.declared.Answer.TheVariants as answer
use Rattle.logical.specs.declared.LogicalImm.{LogicalImm}
use Rattle.moves.specs.Moves.{mov_said}
use Rattle.moves.proofs.Lengths.{mov_short}
use Rattle.records.specs.Records.{Asked, move, fields, fp64, other, marked, kind_of, register_of, value_of, asked_by, words_line, fields_line, float_line, Says, LineOf}
use Rattle.records.specs.Answers.{OneLine}
use Rattle.records.specs.Inputs.{ends_at}

-- ---- moves

module _ (rd v : ℕ) where
  pub move_made : (f : Words) → ◌≡◌ {A = Said Words} (ok f) (packed (mov_said v rd)) → OneLine (Says move rd v) (answer.Words f)
  move_made f h =
      let e : ◌≡◌ {A = Said (List ℕ)} (ok (list_of f)) (mov_said v rd) = ap listed h ∙ listed_packed (mov_said v rd) (mov_short v rd) in
      let p : ◌≡◌ {A = Said Words} (ok f) (ok (words_of (list_of f))) = h ∙ ap packed (sym e) in
      record { item = _; line = refl; plain = cc; says = ap words_line e }

-- ---- only a bad mark is the end

words_go : (x : Said (List ℕ)) → ends_at (words_line x) ≡ false
words_go (ok ws) = refl
words_go (no n) = refl

fields_go : (x : Said LogicalImm) → ends_at (fields_line x) ≡ false
fields_go (ok f) = refl
fields_go (no n) = refl

float_go : (x : Said ℕ) → ends_at (float_line x) ≡ false
float_go (ok b) = refl
float_go (no n) = refl

says_go : (k : Asked) (rd v : ℕ) (i : Item) → Says k rd v i → ends_at i ≡ false
says_go move rd v i s = rw s (words_go (mov_said v rd))
says_go (fields w) rd v i (a, e, s) = rw s (fields_go a)
says_go fp64 rd v i (a, e, s) = rw s (float_go a)
says_go other rd v i s = rw s refl

pub line_ends : (r : List ℕ) (offset : ℕ) (i : Item) → LineOf r offset i → ends_at i ≡ not (marked r)
unfolding LineOf
line_ends r offset i l = go (marked r) l
  where
    go : (b : Bool) → cond b (Says (asked_by (kind_of r)) (register_of r) (value_of r) i) (i ≡ bad_mark offset) → ends_at i ≡ not b
    go true s = says_go (asked_by (kind_of r)) (register_of r) (value_of r) i s
    go false s = rw s refl

-- ---- the mark is compared first

not_both : (a : Bool) {b : Bool} → b ≡ false → (a && b) ≡ false
not_both true e = e
not_both false e = refl

module _ (r : List ℕ) (offset : ℕ) where
  pub line_bad : marked r ≡ false → LineOf r offset (bad_mark offset)
  unfolding LineOf
  line_bad m = rw m refl

  -- either byte of the mark may be the bad one
  pub first_bad : (get_or r 0 0 ≡ 0x46 → ⊥) → OneLine (LineOf r offset) (answer.BadMark offset)
  unfolding marked
  first_bad h = record { item = _; line = refl; plain = tt; says = line_bad (simp (ne_eqb (get_or r 0 0) 0x46 h)) }

  pub second_bad : (get_or r 1 0 ≡ 0x53 → ⊥) → OneLine (LineOf r offset) (answer.BadMark offset)
  unfolding marked
  second_bad h = record { item = _; line = refl; plain = tt; says = line_bad (not_both (eqb (get_or r 0 0) 0x46) (ne_eqb (get_or r 1 0) 0x53 h)) }

-- A record's line and an input's lines as functions that antt computes, and that they are those which the definitions allow: every input prints
-- something, and one thing only. Assumes nothing.
use mathlib.Core.Path.{◌≡◌, refl, sym}
use mathlib.Core.Bool.{Bool, true, false, cond}
use mathlib.Core.List.{List, [], ◌∷◌, ◌++◌, append_assoc}
use mathlib.Core.Logic.{inl, inr}
use Prim.Native.Nat.{ℕ, zero, suc, ◌+◌, ◌/◌, ◌%◌, ◌^◌}
use native.Mathlib.Omega.{arith}
use lib.ListN.{length}
use Rattle.lines.specs.Item.{Item, no, bad_mark}
use Rattle.logical.proofs.Model.{encode_of, encode_right}
use Rattle.moves.specs.Moves.{mov_said}
use Rattle.immediates.specs.Says.{FloatSays}
use Rattle.immediates.proofs.Laws.{fp64}
use Rattle.immediates.proofs.Examples.{float_of}
use Rattle.records.specs.Records.{Asked, move, fields, other, marked, kind_of, register_of, value_of, asked_by, words_line, fields_line, float_line, Says, LineOf, tail_of}
use Rattle.records.specs.Records as asked
use Rattle.records.specs.Inputs.{record_at, offset_after, ends_at, Told, none, more, Prints, whole, ended}
use Rattle.records.proofs.Determined.{prints_determined}

-- ---- a record

abbrev says_of : Asked → ℕ → ℕ → Item
says_of move rd v = words_line (mov_said v rd)
says_of (fields w) rd v = fields_line (encode_of w v)
says_of asked.fp64 rd v = float_line (float_of 64 v)
says_of other rd v = no 7

float_right : (v : ℕ) → FloatSays 64 v (float_of 64 v)
unfolding FloatSays
float_right v = inl (inr (inr refl), fp64 (v % 2 ^ 64))

says_right : (k : Asked) (rd v : ℕ) → Says k rd v (says_of k rd v)
says_right move rd v = refl
says_right (fields w) rd v = (encode_of w v, encode_right w v, refl)
says_right asked.fp64 rd v = (float_of 64 v, float_right v, refl)
says_right other rd v = refl

unfoldable pub line_of : List ℕ → ℕ → Item
line_of r offset = cond (marked r) (says_of (asked_by (kind_of r)) (register_of r) (value_of r)) (bad_mark offset)

pub line_right : (r : List ℕ) (offset : ℕ) → LineOf r offset (line_of r offset)
unfolding LineOf line_of
line_right r offset = go (marked r)
  where
    k : Asked
    k = asked_by (kind_of r)

    go : (b : Bool) → cond b (Says k (register_of r) (value_of r) (cond b (says_of k (register_of r) (value_of r)) (bad_mark offset))) (cond b (says_of k (register_of r) (value_of r)) (bad_mark offset) ≡ bad_mark offset)
    go true = says_right k (register_of r) (value_of r)
    go false = refl

-- ---- an input

-- n records from record k on, and the tail
lines_from : ℕ → ℕ → ℕ → List ℕ → List Item
lines_from zero k offset bs = tail_of (length bs % 12) (offset_after offset k)
lines_from (suc n) k offset bs = let i = line_of (record_at bs k) (offset_after offset k) in i ∷ cond (ends_at i) [] (lines_from n (suc k) offset bs)

unfoldable pub lines_of : ℕ → List ℕ → List Item
unfolding lines_from
lines_of offset bs = lines_from (length bs / 12) 0 offset bs

prints_from : (n k offset : ℕ) (bs : List ℕ) {is : List Item} → Told offset bs k false is → n + k ≡ length bs / 12 → Prints offset bs (is ++ lines_from n k offset bs)
unfolding lines_from
prints_from zero k offset bs {is} p h = rw (sym e) at (whole (rw e at p))
  where
    e : k ≡ length bs / 12
    e = omega (arith, h)
prints_from (suc n) k offset bs {is} p h = go (λ q. prints_from n (suc k) offset bs q (omega arith)) (ends_at i) refl
  where
    i : Item
    i = line_of (record_at bs k) (offset_after offset k)

    told : Told offset bs (suc k) (ends_at i) (is ++ (i ∷ []))
    told = more i p (line_right (record_at bs k) (offset_after offset k))

    go : (Told offset bs (suc k) false (is ++ (i ∷ [])) → Prints offset bs ((is ++ (i ∷ [])) ++ lines_from n (suc k) offset bs))
        → (b : Bool) → ends_at i ≡ b → Prints offset bs (is ++ (i ∷ cond b [] (lines_from n (suc k) offset bs)))
    go rest false t = rw append_assoc at (rest (rw t at told))
    go rest true t = ended (rw t at told) (omega arith)

pub prints_some : (offset : ℕ) (bs : List ℕ) → Prints offset bs (lines_of offset bs)
unfolding lines_of
prints_some offset bs = prints_from (length bs / 12) 0 offset bs none (omega arith)

pub the_lines : (offset : ℕ) (bs : List ℕ) (is : List Item) → Prints offset bs is → is ≡ lines_of offset bs
the_lines offset bs is h = prints_determined offset bs is (lines_of offset bs) h (prints_some offset bs)

-- The cases of `part_at`, and part after part where there is room for all. Assumes nothing.
use mathlib.Core.Path.{◌≡◌, refl, sym, ap, ◌∙◌}
use mathlib.Core.Bool.{Bool, true, false, cond}
use mathlib.Core.List.{List, [], ◌∷◌, ◌++◌}
use Prim.Native.Nat.{ℕ, ◌+◌, ◌≤◌, ◌<◌}
use native.Mathlib.Nat.{add-zero}
use native.Mathlib.Omega.{arith}
use borrow.Author.Tests.{le-leb, lt-leb, leb-true, leb-false}
use lib.Dec.{leb}
use lib.ListN.{length, length-append}
use lib.Seq.{sets, length-sets}
use Rattle.words.proofs.Runs.{sets_append}
use Rattle.lines.specs.Parts.{Part, text, number, word, bytes_of, most_of, part_at, parts_at, bytes_of_all, most_of_all}
use Rattle.lines.specs.Steps.{Put}
use Rattle.lines.proofs.Digits.{short_all}

-- a test of room, by its outcome
module _ {b : Bool} {m n : ℕ} (e : b ≡ leb m n) where
  pub enough : b ≡ true → m ≤ n
  enough t = leb-true m n (sym e ∙ t)

  pub too_few : b ≡ false → n < m
  too_few t = leb-false m n (sym e ∙ t)

-- no part is longer than the room that is asked for
pub any_part : (p : Part) → length (bytes_of p) ≤ most_of p
any_part (text t) = omega arith
any_part (number n) = short_all n
any_part (word w) = omega arith

module _ (o : List ℕ) (at : ℕ) (p : Part) where
  pub part_fits : at + most_of p ≤ length o → part_at o at p ≡ (at + length (bytes_of p), sets o at (bytes_of p))
  unfolding part_at
  part_fits h = simp (le-leb (at + most_of p) (length o) h)

  pub part_full : length o < at + most_of p → part_at o at p ≡ (at, o)
  unfolding part_at
  part_full h = simp (lt-leb (at + most_of p) (length o) h)

  -- the run keeps its length
  pub part_same : length (part_at o at p).1 ≡ length o
  unfolding part_at
  part_same = go (leb (at + most_of p) (length o))
    where
      go : (b : Bool) → length (cond {A = ℕ × List ℕ} b (at + length (bytes_of p), sets o at (bytes_of p)) (at, o)).1 ≡ length o
      go true = length-sets o at (bytes_of p)
      go false = refl

  -- what a writer put where there is room
  pub part_is : {m r : ℕ} {o' : List ℕ} → at + most_of p ≤ length o → Put m o at (bytes_of p) r o' → ◌≡◌ {A = ℕ × List ℕ} (r, o') (part_at o at p)
  part_is {o' = o'} h q =
      ap (λ (k : ℕ). (k, o')) q.past ∙ ap (λ (l : List ℕ). (at + length (bytes_of p), l)) q.holds ∙ sym (part_fits h)

-- all parts, one behind the other
pub parts_fit : (ps : List Part) (o : List ℕ) (at : ℕ) → at + most_of_all ps ≤ length o → parts_at (at, o) ps ≡ (at + length (bytes_of_all ps), sets o at (bytes_of_all ps))
unfolding parts_at
parts_fit [] o at h = ap (λ (k : ℕ). (k, o)) (sym (add-zero at))
parts_fit (p ∷ ps) o at h =
    let v = bytes_of p in
    let e = part_fits o at p (omega arith) in
    let rest = parts_fit ps (sets o at v) (at + length v) (simp length-sets (omega (arith, any_part p))) in
    let n : at + length v + length (bytes_of_all ps) ≡ at + length (v ++ bytes_of_all ps) = simp length-append (omega arith) in
    ap (λ (q : ℕ × List ℕ). parts_at q ps) e ∙ rest ∙ ap (λ (k : ℕ). (k, sets (sets o at v) (at + length v) (bytes_of_all ps))) n
    ∙ ap (λ (l : List ℕ). (at + length (v ++ bytes_of_all ps), l)) (sym (sets_append v (bytes_of_all ps) o at))

pub parts_same : (ps : List Part) (q : ℕ × List ℕ) → length (parts_at q ps).1 ≡ length q.1
unfolding parts_at
parts_same [] q = refl
parts_same (p ∷ ps) q = parts_same ps (part_at q.1 q.0 p) ∙ part_same q.1 q.0 p

pub parts_append : (ps qs : List Part) (q : ℕ × List ℕ) → parts_at q (ps ++ qs) ≡ parts_at (parts_at q ps) qs
unfolding parts_at
parts_append [] qs q = refl
parts_append (p ∷ ps) qs q = parts_append ps qs (part_at q.1 q.0 p)

-- ---- what one call after the other leaves

module _ (o : List ℕ) (at : ℕ) (x : Part) {p : ℕ × List ℕ} (e : p ≡ part_at o at x) where
  pub only : p ≡ parts_at (at, o) (x ∷ [])
  unfolding parts_at
  only = e

  pub before : (ps : List Part) {r : ℕ × List ℕ} → r ≡ parts_at p ps → r ≡ parts_at (at, o) (x ∷ ps)
  unfolding parts_at
  before ps f = f ∙ ap (λ (q : ℕ × List ℕ). parts_at q ps) e

pub then : (q : ℕ × List ℕ) (ls bs : List Part) {p r : ℕ × List ℕ} → p ≡ parts_at q ls → r ≡ parts_at p bs → r ≡ parts_at q (ls ++ bs)
then q ls bs e f = f ∙ ap (λ (x : ℕ × List ℕ). parts_at x bs) e ∙ sym (parts_append ls bs q)

-- the run keeps its length
pub kept : (o : List ℕ) (at : ℕ) (ps : List Part) {o' : List ℕ} {r : ℕ} → ◌≡◌ {A = ℕ × List ℕ} (r, o') (parts_at (at, o) ps) → length o' ≡ length o
kept o at ps e = ap (λ (q : ℕ × List ℕ). length q.1) e ∙ parts_same ps (at, o)

pub short_parts : (ps : List Part) → length (bytes_of_all ps) ≤ most_of_all ps
short_parts [] = omega arith
short_parts (p ∷ ps) = omega (arith, any_part p, short_parts ps, length-append (bytes_of p) (bytes_of_all ps))

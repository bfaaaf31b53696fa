-- A sheet in three runs of numbers, read as uses. Assumes nothing.
use mathlib.Core.Path.{◌≡◌, refl, sym, ap, subst, ◌∙◌}
use mathlib.Core.Bool.{Bool, true, false, cond}
use mathlib.Core.List.{List, [], ◌∷◌}
use Prim.Native.Nat.{ℕ, zero, suc, ◌+◌, ◌<◌, ◌≤◌, zero-le, min}
use native.Mathlib.Nat.{not-suc-le-zero}
use native.Mathlib.Numerals.{add-one}
use native.Mathlib.Omega.{arith}
use borrow.Author.Tests.{eq-eqb, ne_eqb, eqb-true, eqb-false}
use lib.Dec.{eqb}
use lib.ListN.{length, get_or, set, take, drop, drop_of_length-le}
use lib.Seq.{drop-cons, get_or-take, length-take-le}
use Rattle.std.specs.Prelude.{Some, slice_get}
use Rattle.std.proofs.lemmas.Option.{slice_get-get_or}
use Rattle.words.specs.Said.{Said, ok}
use Rattle.words.specs.declared.Place.{Place}
use Rattle.labels.specs.declared.Use.{Use}
use Rattle.labels.specs.Order.{first, or_else, answer}
use Rattle.labels.specs.Sheet.{none, room_for, names, use_refusal, use_of, check_of, word_number, fixed_of, filled, finish_tests, finish_of, counted_of}
use Rattle.labels.proofs.Tests.{Coded, first_then, or_next, or_stop, counted_done, counted_kept}
use Rattle.labels.proofs.Finishing.{finish_numbers, room_in}
use Rattle.labels.proofs.Coded.{may_room, check_coded, early_coded, early_room}
use Rattle.labels.proofs.Turns.{check_at, number_on, number_bad, number_end, uses_inside, uses_write, uses_over}
use Rattle.label_runs.specs.Flat.{uses_of, Runs, use_runs}

-- ---- how far the uses go

pub uses_long : (n : ℕ) (ms ps fs : List ℕ) → n ≤ length ms → n ≤ length ps → n ≤ length fs → n ≤ length (uses_of ms ps fs)
uses_long zero ms ps fs h i j = zero-le
uses_long (suc n) [] ps fs h i j = h
uses_long (suc n) (l ∷ ms) [] fs h i j = i
uses_long (suc n) (l ∷ ms) (a ∷ ps) [] h i j = j
uses_long (suc n) (l ∷ ms) (a ∷ ps) (f ∷ fs) h i j = let r = uses_long n ms ps fs (omega arith) (omega arith) (omega arith) in omega arith

pub uses_short : (ms ps fs : List ℕ)
    → (length (uses_of ms ps fs) ≤ length ms) × (length (uses_of ms ps fs) ≤ length ps) × (length (uses_of ms ps fs) ≤ length fs)
uses_short [] ps fs = (zero-le, zero-le, zero-le)
uses_short (l ∷ ms) [] fs = (zero-le, zero-le, zero-le)
uses_short (l ∷ ms) (a ∷ ps) [] = (zero-le, zero-le, zero-le)
uses_short (l ∷ ms) (a ∷ ps) (f ∷ fs) = let r = uses_short ms ps fs in (omega (arith, r.0), omega (arith, r.1), omega (arith, r.2))

pub uses_length : (ms ps fs : List ℕ) → length (uses_of ms ps fs) ≡ min (min (length ms) (length ps)) (length fs)
uses_length ms ps fs =
    let s = uses_short ms ps fs in
    let m = min (min (length ms) (length ps)) (length fs) in
    least-is (length ms) (length ps) (length fs) _ s.0 s.1 s.2 (uses_long m ms ps fs (omega arith) (omega arith) (omega arith))
  where
    least-is : (a b c n : ℕ) → n ≤ a → n ≤ b → n ≤ c → min (min a b) c ≤ n → n ≡ min (min a b) c
    least-is a b c n h i j k = omega arith

-- the i-th use
abbrev pub flat_at : List ℕ → List ℕ → List ℕ → ℕ → Use
flat_at ms ps fs i = record { label = get_or ms i 0; at = get_or ps i 0; format = get_or fs i 0 }

pub uses_at : (ms ps fs : List ℕ) (i : ℕ) → i < length (uses_of ms ps fs) → get_or (uses_of ms ps fs) i none ≡ flat_at ms ps fs i
uses_at [] ps fs i h = absurd (not-suc-le-zero h)
uses_at (l ∷ ms) [] fs i h = absurd (not-suc-le-zero h)
uses_at (l ∷ ms) (a ∷ ps) [] i h = absurd (not-suc-le-zero h)
uses_at (l ∷ ms) (a ∷ ps) (f ∷ fs) zero h = refl
uses_at (l ∷ ms) (a ∷ ps) (f ∷ fs) (suc i) h = uses_at ms ps fs i (omega arith)

-- it is there
pub use_there : (ms ps fs : List ℕ) (i : ℕ) → i < length (uses_of ms ps fs) → Some (flat_at ms ps fs i) ≡ slice_get (uses_of ms ps fs) i
use_there ms ps fs i h = ap Some (sym (uses_at ms ps fs i h)) ∙ sym (slice_get-get_or (uses_of ms ps fs) i none h)

-- ---- the scan for a word

-- k is one of the numbers
abbrev pub among : ℕ → List ℕ → Bool
among k [] = false
among k (a ∷ ps) = cond (eqb a k) true (among k ps)

pub names_among : (k n : ℕ) (ms ps fs : List ℕ) → n ≤ length (uses_of ms ps fs) → names k (take n (uses_of ms ps fs)) ≡ among k (take n ps)
names_among k zero ms ps fs h = refl
names_among k (suc n) [] ps fs h = absurd (not-suc-le-zero h)
names_among k (suc n) (l ∷ ms) [] fs h = absurd (not-suc-le-zero h)
names_among k (suc n) (l ∷ ms) (a ∷ ps) [] h = absurd (not-suc-le-zero h)
names_among k (suc n) (l ∷ ms) (a ∷ ps) (f ∷ fs) h = ap (λ (b : Bool). cond (eqb a k) true b) (names_among k n ms ps fs (omega arith))

among_on : (k : ℕ) (ps : List ℕ) (i : ℕ) → i < length ps → (get_or ps i 0 ≡ k → ⊥) → among k (drop i ps) ≡ among k (drop (i + 1) ps)
among_on k ps i h n = rw (add-one, drop-cons ps i 0 h) (simp (ne_eqb _ _ n))

among_hit : (k : ℕ) (ps : List ℕ) (i : ℕ) → i < length ps → get_or ps i 0 ≡ k → among k (drop i ps) ≡ true
among_hit k ps i h e = rw (drop-cons ps i 0 h) (simp (eq-eqb _ _ e))

-- among the first n positions
module _ (k n : ℕ) (ps : List ℕ) (f : n ≤ length ps) where
  pub scan_on : (i : ℕ) → i < n → (get_or ps i 0 ≡ k → ⊥) → among k (drop i (take n ps)) ≡ among k (drop (i + 1) (take n ps))
  scan_on i h m = among_on k (take n ps) i (rw (length-take-le n ps f) h) (λ e. m (sym (get_or-take n ps i 0 h) ∙ e))

  pub scan_hit : (i : ℕ) → i < n → get_or ps i 0 ≡ k → among k (drop i (take n ps)) ≡ true
  scan_hit i h e = among_hit k (take n ps) i (rw (length-take-le n ps f) h) (get_or-take n ps i 0 h ∙ e)

  pub scan-end : (i : ℕ) → n ≤ i → among k (drop i (take n ps)) ≡ false
  scan-end i h = ap (among k) (drop_of_length-le (take n ps) {i = i} (rw (length-take-le n ps f) h))

-- ---- the check and the writing, of the first n uses

module _ (at : Place) (ls ms ps fs : List ℕ) (n : ℕ) (f : n ≤ length (uses_of ms ps fs)) where
  here_at : (i : ℕ) → i < n → get_or (uses_of ms ps fs) i none ≡ flat_at ms ps fs i
  here_at i h = uses_at ms ps fs i (omega arith)

  -- the scan having answered y and the use's number being r
  module _ (ws : List ℕ) (i : ℕ) (h : i < n) (y : Bool) (scanned : y ≡ among (get_or ps i 0) (take i ps))
      (r : ℕ) (e : r ≡ word_number at ls ws y (flat_at ms ps fs i)) where
    seen : y ≡ names (get_or (uses_of ms ps fs) i none).at (take i (uses_of ms ps fs))
    seen = rw (here_at i h) (scanned ∙ sym (names_among (get_or ps i 0) i ms ps fs (omega arith)))

    found : r ≡ word_number at ls ws y (get_or (uses_of ms ps fs) i none)
    found = rw (here_at i h) e

    pub flat_on : r ≡ 0 → check_at at ls ws (take n (uses_of ms ps fs)) i ≡ check_at at ls ws (take n (uses_of ms ps fs)) (i + 1)
    flat_on z = number_on at ls ws (uses_of ms ps fs) n f i h y seen r found z

    pub flat_bad : (r ≡ 0 → ⊥) → r ≡ check_at at ls ws (take n (uses_of ms ps fs)) i
    flat_bad z = number_bad at ls ws (uses_of ms ps fs) n f i h y seen r found z

  pub flat_end : (ws : List ℕ) (i : ℕ) → n ≤ i → check_at at ls ws (take n (uses_of ms ps fs)) i ≡ 0
  flat_end ws i h = number_end at ls ws (uses_of ms ps fs) n f i h

  -- they passed the check
  module _ (ws : List ℕ) (ok : check_of at ls ws [] (take n (uses_of ms ps fs)) ≡ 0) where
    pub flat_inside : (i : ℕ) → i < n → get_or ps i 0 < length ws
    flat_inside i h = rw (here_at i h) at (uses_inside at ls ws (uses_of ms ps fs) n f ok i h)

    pub flat_write : (cur : List ℕ) (i r : ℕ) → i < n → r ≡ fixed_of at ls (flat_at ms ps fs i) (get_or cur (get_or ps i 0) 0)
        → filled at ls cur (drop i (take n (uses_of ms ps fs))) ≡ filled at ls ws (take n (uses_of ms ps fs))
        → filled at ls (set cur (get_or ps i 0) r) (drop (i + 1) (take n (uses_of ms ps fs))) ≡ filled at ls ws (take n (uses_of ms ps fs))
    flat_write cur i r h e g = rw (here_at i h) at (uses_write at ls ws (uses_of ms ps fs) n f ok cur i r h (rw (here_at i h) e) g)

    pub flat_over : (cur : List ℕ) (i : ℕ) → n ≤ i → filled at ls cur (drop i (take n (uses_of ms ps fs))) ≡ cur
    flat_over cur i h = uses_over at ls ws (uses_of ms ps fs) n f ok cur i h

-- ---- one use more

pub uses_set : (ms ps fs : List ℕ) (n : ℕ) (u : Use)
    → set (uses_of ms ps fs) n u ≡ uses_of (set ms n u.label) (set ps n u.at) (set fs n u.format)
uses_set [] ps fs n u = refl
uses_set (l ∷ ms) [] fs zero u = refl
uses_set (l ∷ ms) [] fs (suc n) u = refl
uses_set (l ∷ ms) (a ∷ ps) [] zero u = refl
uses_set (l ∷ ms) (a ∷ ps) [] (suc n) u = refl
uses_set (l ∷ ms) (a ∷ ps) (f ∷ fs) zero u = refl
uses_set (l ∷ ms) (a ∷ ps) (f ∷ fs) (suc n) u = ap (λ (us : List Use). record { label = l; at = a; format = f } ∷ us) (uses_set ms ps fs n u)

abbrev with_uses : Said ℕ → List Use → Said ℕ × List Use
with_uses x us = (x, us)

abbrev with_runs : Said ℕ → Runs → Said ℕ × Runs
with_runs x rs = (x, rs)

-- each run has room for a use that is taken
pub use_fits : (ls ws ms ps fs : List ℕ) (n : ℕ) (at : Place) (u : Use) (again : Bool) (there : ℕ) → there ≡ length (uses_of ms ps fs)
    → use_refusal ls ws at u again (room_for there (n + 1)) ≡ 0 → (n < length ms) × (n < length ps) × (n < length fs)
use_fits ls ws ms ps fs n at u again there e z =
    let h = room_in there (n + 1) (may_room ls ws at u again (room_for there (n + 1)) z) in
    let l = uses_length ms ps fs in
    (omega arith, omega arith, omega arith)

-- what the runs then spell is the sheet with the use, or the sheet as it was
pub runs_spell : (ls ws ms ps fs : List ℕ) (n : ℕ) (at : Place) (u : Use) (x : Said ℕ) (ms' ps' fs' : List ℕ)
    → with_runs x (ms', (ps', fs')) ≡ use_runs ls ws (ms, (ps, fs)) n at u → with_uses x (uses_of ms' ps' fs') ≡ use_of ls ws (uses_of ms ps fs) n at u
runs_spell ls ws ms ps fs n at u x ms' ps' fs' e =
    ap (λ (z : Said ℕ × Runs). with_uses z.0 (uses_of z.1.0 z.1.1.0 z.1.1.1)) e
    ∙ go (use_refusal ls ws at u (names u.at (take n (uses_of ms ps fs))) (room_for (length (uses_of ms ps fs)) (n + 1)))
  where
    made : ℕ → Said ℕ × Runs
    made r = answer r (n + 1) (ms, (ps, fs)) (set ms n u.label, (set ps n u.at, set fs n u.format))

    go : (r : ℕ) → with_uses (made r).0 (uses_of (made r).1.0 (made r).1.1.0 (made r).1.1.1) ≡ answer r (n + 1) (uses_of ms ps fs) (set (uses_of ms ps fs) n u)
    go zero = ap (with_uses (ok (n + 1))) (sym (uses_set ms ps fs n u))
    go (suc r) = refl

-- a refusal is the same, whatever the count
refused_same : (n m r : ℕ) → (r ≡ 0 → ⊥) → counted_of n r ≡ counted_of m r
refused_same n m zero h = absurd (h refl)
refused_same n m (suc r) h = refl

abbrev with_words : Said ℕ → List ℕ → Said ℕ × List ℕ
with_words x ws = (x, ws)

-- finishing, the first tests having answered `early`
module _ (at : Place) (ls ws : List ℕ) (us : List Use) (n there early : ℕ) (et : there ≡ length us)
    (ee : early ≡ first (finish_tests at there n) 0) where
  abbrev all : ℕ
  all = check_of at ls ws [] (take n us)

  finish_is : first (finish_tests at (length us) n) all ≡ or_else early all
  finish_is =
      first_then (finish_tests at (length us) n) all (finish_numbers at (length us) n)
      ∙ ap (λ (k : ℕ). or_else (first (finish_tests at k n) 0) all) (sym et)
      ∙ ap (λ (k : ℕ). or_else k all) (sym ee)

  pub finish_early : (x : Said ℕ) → x ≡ counted_of n early → (early ≡ 0 → ⊥) → with_words x ws ≡ finish_of at ls ws us n
  finish_early x ex z =
      ap (λ (y : Said ℕ). with_words y ws) (ex ∙ refused_same n 0 early z)
      ∙ counted_kept 0 early ws (filled at ls ws (take n us)) z (subst Coded (sym ee) (early_coded at there n))
      ∙ ap (λ (k : ℕ). answer k 0 ws (filled at ls ws (take n us))) (sym (finish_is ∙ or_stop early all z))

  -- they passed, and each use's number is looked at
  module _ (z : early ≡ 0) where
    pub finish_there : n ≤ length us
    finish_there = subst (λ (k : ℕ). n ≤ k) et (early_room at there n (sym ee ∙ z))

    module _ (r : ℕ) (er : r ≡ all) (x : Said ℕ) (ex : x ≡ counted_of 0 r) where
      number_is : r ≡ first (finish_tests at (length us) n) all
      number_is = er ∙ sym (finish_is ∙ or_next early all z)

      pub finish_done : r ≡ 0 → (zs : List ℕ) → zs ≡ filled at ls ws (take n us) → with_words x zs ≡ finish_of at ls ws us n
      finish_done y zs ez =
          ap (λ (k : Said ℕ). with_words k zs) ex
          ∙ ap (with_words (counted_of 0 r)) ez
          ∙ counted_done 0 r ws (filled at ls ws (take n us)) y
          ∙ ap (λ (k : ℕ). answer k 0 ws (filled at ls ws (take n us))) number_is

      pub finish_kept : (r ≡ 0 → ⊥) → (zs : List ℕ) → zs ≡ ws → with_words x zs ≡ finish_of at ls ws us n
      finish_kept y zs ez =
          ap (λ (k : Said ℕ). with_words k zs) ex
          ∙ ap (with_words (counted_of 0 r)) ez
          ∙ counted_kept 0 r ws (filled at ls ws (take n us)) y (subst Coded (sym er) (check_coded at ls ws [] (take n us)))
          ∙ ap (λ (k : ℕ). answer k 0 ws (filled at ls ws (take n us))) number_is

      -- both ways: where nothing refuses the run is filled, else it is as it was
      pub finish_ends : (zs : List ℕ) → (r ≡ 0 → zs ≡ filled at ls ws (take n us)) → ((r ≡ 0 → ⊥) → zs ≡ ws) → with_words x zs ≡ finish_of at ls ws us n
      finish_ends zs f g = go (eqb r 0) refl
        where
          go : (t : Bool) → eqb r 0 ≡ t → with_words x zs ≡ finish_of at ls ws us n
          go true h = let e = eqb-true r 0 h in finish_done e zs (f e)
          go false h = let e = eqb-false r 0 h in finish_kept e zs (g e)

-- One turn of each loop over a sheet. Assumes nothing.
use mathlib.Core.Path.{◌≡◌, sym, ap, subst, ◌∙◌}
use mathlib.Core.Bool.{Bool, true, false}
use mathlib.Core.List.{List, [], ◌∷◌}
use Prim.Native.Nat.{ℕ, zero, suc, ◌+◌, ◌<◌, ◌≤◌}
use native.Mathlib.Nat.{not-suc-le-zero, le_of_lt}
use native.Mathlib.Numerals.{add-one}
use native.Mathlib.Omega.{arith}
use borrow.Author.Tests.{eq-eqb, ne_eqb}
use lib.ListN.{length, get_or, set, take, drop, drop_of_length-le}
use lib.Seq.{take-suc, drop-cons, length-take-le, get_or-take, take-take}
use Rattle.words.specs.declared.Place.{Place}
use Rattle.labels.specs.declared.Use.{Use}
use Rattle.labels.specs.Order.{or_else}
use Rattle.words.specs.Answer.{number_of}
use Rattle.words.specs.declared.Refusal.{Refusal}
use Rattle.labels.specs.Sheet.{none, names, word_number, fixed_of, check_of, filled}
use Rattle.labels.proofs.Tests.{or_next, or_stop, refuses}
use Rattle.labels.proofs.Finishing.{Distinct, All, fill_one, check_sound}

-- ---- the scan for a word

module _ (k : ℕ) (us : List Use) (i : ℕ) (h : i < length us) where
  pub scan_on : ((get_or us i none).at ≡ k → ⊥) → names k (drop i us) ≡ names k (drop (i + 1) us)
  scan_on n = rw (add-one, drop-cons us i none h) (simp (ne_eqb _ _ n))

  pub scan_hit : (get_or us i none).at ≡ k → names k (drop i us) ≡ true
  scan_hit e = rw (drop-cons us i none h) (simp (eq-eqb _ _ e))

-- among the first n
module _ (k n : ℕ) (us : List Use) (f : n ≤ length us) where
  pub names_on : (i : ℕ) → i < n → ((get_or us i none).at ≡ k → ⊥) → names k (drop i (take n us)) ≡ names k (drop (i + 1) (take n us))
  names_on i h m = scan_on k (take n us) i (rw (length-take-le n us f) h) (λ e. m (sym (ap (λ (u : Use). u.at) (get_or-take n us i none h)) ∙ e))

  pub names_hit : (i : ℕ) → i < n → (get_or us i none).at ≡ k → names k (drop i (take n us)) ≡ true
  names_hit i h e = scan_hit k (take n us) i (rw (length-take-le n us f) h) (ap (λ (u : Use). u.at) (get_or-take n us i none h) ∙ e)

  pub names_end : (i : ℕ) → n ≤ i → names k (drop i (take n us)) ≡ false
  names_end i h = ap (names k) (drop_of_length-le (take n us) {i = i} (rw (length-take-le n us f) h))

-- ---- the check

-- the check of the uses from the i-th on
abbrev pub check_at : Place → List ℕ → List ℕ → List Use → ℕ → ℕ
check_at at ls ws us i = check_of at ls ws (take i us) (drop i us)

-- why the i-th use has no word
abbrev pub found_at : Place → List ℕ → List ℕ → List Use → ℕ → ℕ
found_at at ls ws us i = word_number at ls ws (names (get_or us i none).at (take i us)) (get_or us i none)

pub check_cons : (at : Place) (ls ws : List ℕ) (us : List Use) (i : ℕ) → i < length us
    → check_at at ls ws us i ≡ or_else (found_at at ls ws us i) (check_at at ls ws us (i + 1))
check_cons at ls ws us i h = rw (add-one, drop-cons us i none h, take-suc us i none h)

-- among the first n, the scan having answered y and the use's number being r
module _ (at : Place) (ls ws : List ℕ) (us : List Use) (n : ℕ) (f : n ≤ length us) (i : ℕ) (h : i < n)
    (y : Bool) (scanned : y ≡ names (get_or us i none).at (take i us)) (r : ℕ) (e : r ≡ word_number at ls ws y (get_or us i none)) where
  turn : check_at at ls ws (take n us) i ≡ or_else r (check_at at ls ws (take n us) (i + 1))
  turn =
      let s = scanned ∙ sym (ap (names (get_or us i none).at) (take-take i n us (le_of_lt h))) in
      let g : r ≡ found_at at ls ws (take n us) i = rw (get_or-take n us i none h) (e ∙ ap (λ (b : Bool). word_number at ls ws b (get_or us i none)) s) in
      check_cons at ls ws (take n us) i (rw (length-take-le n us f) h) ∙ ap (λ (k : ℕ). or_else k (check_at at ls ws (take n us) (i + 1))) (sym g)

  pub number_on : r ≡ 0 → check_at at ls ws (take n us) i ≡ check_at at ls ws (take n us) (i + 1)
  number_on z = turn ∙ or_next r (check_at at ls ws (take n us) (i + 1)) z

  pub number_bad : (r ≡ 0 → ⊥) → r ≡ check_at at ls ws (take n us) i
  number_bad z = sym (turn ∙ or_stop r (check_at at ls ws (take n us) (i + 1)) z)

pub number_end : (at : Place) (ls ws : List ℕ) (us : List Use) (n : ℕ) → n ≤ length us → (i : ℕ) → n ≤ i → check_at at ls ws (take n us) i ≡ 0
number_end at ls ws us n f i h = ap (check_of at ls ws (take i (take n us))) (drop_of_length-le (take n us) {i = i} (rw (length-take-le n us f) h))

-- a use that is refused
pub number_err : (at : Place) (ls ws : List ℕ) (us : List Use) (n : ℕ) → n ≤ length us → (i : ℕ) → i < n → (y : Bool) (u : Use)
    → u ≡ get_or us i none → y ≡ names u.at (take i us) → (r : Refusal) → number_of r ≡ word_number at ls ws y u → check_at at ls ws (take n us) i ≡ number_of r
number_err at ls ws us n f i h y u g s r e = sym (number_bad at ls ws us n f i h y (rw g at s) (number_of r) (rw g at e) (refuses r))

-- ---- the writing

distinct-drop : (us : List Use) (i : ℕ) → Distinct us → Distinct (drop i us)
distinct-drop us zero d = d
distinct-drop [] (suc i) d = tt
distinct-drop (u ∷ us) (suc i) d = distinct-drop us i d.1

-- the i-th use is written, and the others from the run as it then is
pub fill_on : (at : Place) (ls ws : List ℕ) (us : List Use) (i : ℕ) → i < length us → Distinct us
    → filled at ls (set ws (get_or us i none).at (fixed_of at ls (get_or us i none) (get_or ws (get_or us i none).at 0))) (drop (i + 1) us)
    ≡ filled at ls ws (drop i us)
fill_on at ls ws us i h d =
    let e = drop-cons us i none h in
    let n = (subst Distinct e (distinct-drop us i d)).0 in
    rw (add-one, e) (fill_one at ls ws (get_or us i none) (drop (suc i) us) n)

pub inside_at : (at : Place) (ls ws : List ℕ) (us : List Use) (i : ℕ) → All at ls ws us → i < length us → (get_or us i none).at < length ws
inside_at at ls ws [] i a h = absurd (not-suc-le-zero h)
inside_at at ls ws (u ∷ us) zero a h = a.0.inside
inside_at at ls ws (u ∷ us) (suc i) a h = inside_at at ls ws us i a.1 (omega arith)

-- the first n uses of a sheet, which passed the check
module _ (at : Place) (ls ws : List ℕ) (us : List Use) (n : ℕ) (f : n ≤ length us) (ok : check_of at ls ws [] (take n us) ≡ 0) where
  long : length (take n us) ≡ n
  long = length-take-le n us f

  pub uses_inside : (i : ℕ) → i < n → (get_or us i none).at < length ws
  uses_inside i h = rw (get_or-take n us i none h) at (inside_at at ls ws (take n us) i (check_sound at ls ws [] (take n us) ok).0 (rw long h))

  pub uses_write : (cur : List ℕ) (i r : ℕ) → i < n → r ≡ fixed_of at ls (get_or us i none) (get_or cur (get_or us i none).at 0)
      → filled at ls cur (drop i (take n us)) ≡ filled at ls ws (take n us)
      → filled at ls (set cur (get_or us i none).at r) (drop (i + 1) (take n us)) ≡ filled at ls ws (take n us)
  uses_write cur i r h e g =
      let k = rw (get_or-take n us i none h) at (fill_on at ls cur (take n us) i (rw long h) (check_sound at ls ws [] (take n us) ok).1) in
      rw e (k ∙ g)

  pub uses_over : (cur : List ℕ) (i : ℕ) → n ≤ i → filled at ls cur (drop i (take n us)) ≡ cur
  uses_over cur i h = ap (filled at ls cur) (drop_of_length-le (take n us) {i = i} (rw long h))

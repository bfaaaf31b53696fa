-- What the contract of `pick_fp_opcode` amounts to, sentence by sentence. Assumes nothing.
use Rattle.std.proofs.Common.{◌≡◌, ℕ, ◌-◌, ◌<◌, ◌≤◌, Bool, true, false, cond, ◌&&◌, eqb, ltb, ◌⊎◌, refl, inl, inr, arith, le-ltb, ne_eqb}
use borrow.Author.Tests.{eqb-false}
use Rattle.words.specs.Said.{Said, ok, no}
use Rattle.words.specs.Bit.{bit_of}
use Rattle.simd.specs.Kinds.{Vec16, Vec64, Vec128, none, H, D, within}
use Rattle.simd.proofs.Laws.{either, second, inside, last}
use Rattle.fp_picks.specs.Pick.{row_at, word_of, scalar_of, vector_of, pick_of}

-- "The unused row number is not looked at", nor the unused base
module _ (kind sbase srow sbase' srow' vbase vrow vbase' vrow' : ℕ) where
  pub scalar_only : pick_of kind none sbase srow vbase vrow ≡ pick_of kind none sbase srow vbase' vrow'
  unfolding pick_of
  scalar_only = refl

  pub vector_only :
      (element : ℕ) → (element ≡ none → ⊥)
      → pick_of kind element sbase srow vbase vrow ≡ pick_of kind element sbase' srow' vbase vrow
  unfolding pick_of
  vector_only element h = simp (ne_eqb element none h)

-- "A zero base is tested before bit 30": a zero base at Vec128, where bit 30 would make a word of it, is 10
pub zero_at_vec128 :
    (element sbase srow vrow : ℕ) → H ≤ element → element ≤ D → vrow ≤ 5 → bit_of (row_at vrow).sizes (element - H) ≡ true
    → pick_of Vec128 element sbase srow 0 vrow ≡ no 10
unfolding pick_of vector_of word_of
zero_at_vec128 element sbase srow vrow first last few has =
    simp (
      le-ltb 7 element (omega arith),
      ne_eqb element none (λ z. omega arith),
      le-ltb 5 vrow few,
      inside H D element first last,
      has,
    )

-- a word is picked with a size of 0, 1 or 2 and from a base that is not zero, bit 30 apart; no number but 7, 3 and 10 is given
abbrev pub PickFair : ℕ → Said (ℕ × ℕ) → Type 0
PickFair base (ok p) = (0 < base) × (p.1 < 3)
PickFair base (no n) = (n ≡ 7) ⊎ (n ≡ 3) ⊎ (n ≡ 10)

word_fair : (n size base word : ℕ) → size < 3 → PickFair base (word_of n size base word)
unfolding word_of
word_fair n size base word h =
    either (PickFair base) (bit_of (row_at n).sizes size) _ _
    (λ t. either (PickFair base) (eqb base 0) _ _ (λ z. inr (inr refl)) (λ z. (omega (arith, eqb-false base 0 z), h)))
    (λ t. inr (inl refl))

scalar_fair : (kind base n : ℕ) → PickFair base (scalar_of kind base n)
unfolding scalar_of
scalar_fair kind base n =
    either (PickFair base) (ltb 5 n) _ _ (λ h. inl refl)
    (λ h. either (PickFair base) (within Vec16 Vec64 kind) _ _
    (λ w. word_fair n (kind - Vec16) base base (omega (arith, last Vec16 Vec64 kind w)))
    (λ w. inr (inl refl)))

vector_fair : (kind element base n : ℕ) → PickFair base (vector_of kind element base n)
unfolding vector_of
vector_fair kind element base n =
    either (PickFair base) (ltb 5 n) _ _ (λ h. inl refl)
    (λ h. either (PickFair base) (within Vec64 Vec128 kind && within H D element) _ _
    (λ w. word_fair n (element - H) base _ (omega (arith, last H D element (second (within Vec64 Vec128 kind) (within H D element) w))))
    (λ w. inr (inl refl)))

known : (base : ℕ) (k e : Bool) (a : Said (ℕ × ℕ)) → PickFair base a → PickFair base (cond k (no 7) (cond e (no 7) a))
known base true e a f = inl refl
known base false true a f = inl refl
known base false false a f = f

pub pick_fair :
    (kind element sbase srow vbase vrow : ℕ) → PickFair (cond (eqb element none) sbase vbase) (pick_of kind element sbase srow vbase vrow)
unfolding pick_of
pick_fair kind element sbase srow vbase vrow = by (eqb element none)
  where
    by : (t : Bool) → PickFair (cond t sbase vbase)
        (cond (ltb 7 kind) (no 7) (cond (ltb 7 element) (no 7) (cond t (scalar_of kind sbase srow) (vector_of kind element vbase vrow))))
    by true = known sbase (ltb 7 kind) (ltb 7 element) _ (scalar_fair kind sbase srow)
    by false = known vbase (ltb 7 kind) (ltb 7 element) _ (vector_fair kind element vbase vrow)

-- The answers of `logical::find_run`. Assumes nothing.
use mathlib.Core.Path.{◌≡◌, refl, sym, ◌∙◌}
use mathlib.Core.Logic.{◌⊎◌, inl, inr, ⊎_elim}
use Prim.Native.Nat.{ℕ, ◌+◌, ◌/◌, ◌%◌, ◌^◌, ◌≤◌, ◌<◌}
use native.Mathlib.Nat.{pos_of_ne-zero}
use native.Mathlib.Omega.{arith}
use lib.Count.{count_leading_zeros, count_trailing_zeros}
use lib.Pow.{pow_mono}
use borrow.Author.Rules.{rules}
use Rattle.std.specs.Int.{rotate_right, w64}
use Rattle.arm.specs.Bits.{ROR}
use Rattle.arm.specs.Elements.{Element}
use Rattle.arm.proofs.Lengths.{at_element}
use Rattle.logical.proofs.Rotated.{rotated}
use Rattle.logical.proofs.Search.{Seen, zero_none, a_run, no_run, e_low, e_pos}
use Rattle.logical.proofs.find_run.Goals as goal

-- the element lengths, as the code lists them
abbrev Listed : ℕ → Type 0
Listed e = (e ≡ 2) ⊎ ((e ≡ 4) ⊎ ((e ≡ 8) ⊎ ((e ≡ 16) ⊎ ((e ≡ 32) ⊎ (e ≡ 64)))))

element : {e : ℕ} → Listed e → Element 64 e
element {e} =
    ⊎_elim (at 1 (omega arith) (omega arith)) (⊎_elim (at 2 (omega arith) (omega arith)) (⊎_elim (at 3 (omega arith) (omega arith))
    (⊎_elim (at 4 (omega arith) (omega arith)) (⊎_elim (at 5 (omega arith) (omega arith)) (at 6 (omega arith) (omega arith))))))
  where
    at : (j : ℕ) → 1 ≤ j → j ≤ 6 → e ≡ 2 ^ j → Element 64 e
    at j lo hi is = record { log = j; log_low = lo; log_high = hi; is = is; fits = rw is (pow_mono hi) }

listed : {e : ℕ} → Element 64 e → Listed e
listed = at_element Listed (inl refl) (inr (inl refl)) (inr (inr (inl refl))) (inr (inr (inr (inl refl)))) (inr (inr (inr (inr (inl refl))))) (inr (inr (inr (inr (inr refl)))))

-- what was read off the value
seen : (x p l : ℕ) → x < 2 ^ 64 → (x ≡ 0 → ⊥) → x % 2 ≡ 0 → p ≡ count_trailing_zeros 64 x → l ≡ count_trailing_zeros 64 (x / 2 ^ p + 1)
    → Seen 64 x p l (p + l + count_leading_zeros 64 x)
seen x p l small some even place run = record {
  width = inr refl;
  small = small;
  pos = pos_of_ne-zero some;
  even = even;
  p_is = place;
  l_is = run;
  e_is = refl;
}

pub returns-then-x-eq0 : goal.returns-then-x-eq0
returns-then-x-eq0 c = zero_none (inr refl) c.if-x-eq0.true

-- what `rotate_right` gives, as Arm turns it
turned : {x p l y : ℕ} → Seen 64 x p l (p + l + count_leading_zeros 64 x) → y ≡ rotate_right w64 x (p + l + count_leading_zeros 64 x)
    → y ≡ ROR 64 x (p + l + count_leading_zeros 64 x)
turned {x} t is = is ∙ rotated x _ t.small (e_pos t) (e_low t)

pub returns-then-rotate_right-x : goal.returns-then-rotate_right-x
returns-then-rotate_right-x c =
    let t = seen _ _ _ c.ranges.x.fits c.if-x-eq0.false c.requires c.zeros-p.ensures.0 c.zeros-l.ensures.0 in
    no_run t (λ el same. c.if-rotate_right-x.true (turned t c.rotate_right.ensures ∙ same))

pub returns-in-2 : goal.returns-in-2
returns-in-2 c =
    let t = seen _ _ _ c.ranges.x.fits c.if-x-eq0.false c.requires c.zeros-p.ensures.0 c.zeros-l.ensures.0 in
    a_run t (element c.in-2.is) (sym (turned t c.rotate_right.ensures) ∙ c.if-rotate_right-x.false)

pub returns-in_default : goal.returns-in_default
returns-in_default c =
    no_run (seen _ _ _ c.ranges.x.fits c.if-x-eq0.false c.requires c.zeros-p.ensures.0 c.zeros-l.ensures.0)
    (λ el same. let k = listed el in search rules)

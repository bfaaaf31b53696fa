-- What the values of the entries are at most, and that the test's promise allows one answer. Assumes nothing.
use mathlib.Core.Path.{◌≡◌, sym, ap, ◌∙◌}
use mathlib.Core.Bool.{Bool, true, false, cond}
use Prim.Native.Nat.{ℕ, ◌%◌, ◌^◌, ◌≤◌}
use native.Mathlib.Omega.{arith}
use lib.Dec.{eqb}
use Rattle.arm.specs.Immediates.{VFPExpandImm}
use Rattle.words.specs.Said.{Said, ok, no}
use Rattle.halfwords.specs.Halfwords.{half, same, count}
use Rattle.immediates.proofs.Determined.{one_test}
use Rattle.host_values.specs.Values.{TestSays}

same_one : (f h : ℕ) → same f h ≤ 1
same_one f h = go (eqb h f)
  where
    go : (b : Bool) → cond b 1 0 ≤ 1
    go true = omega arith
    go false = omega arith

-- there are four halfwords
pub count_four : (f v : ℕ) → count f v ≤ 4
unfolding count
count_four f v = omega (arith, same_one f (half v 0), same_one f (half v 1), same_one f (half v 2), same_one f (half v 3))

-- the test at a width says one thing
pub one_width : (N v : ℕ) (a b : Said Bool) → TestSays N v a → TestSays N v b → a ≡ b
one_width N v (ok r) (ok s) p q = ap ok (one_test (VFPExpandImm N) (v % 2 ^ N) r s p.1 q.1)
one_width N v (ok r) (no n) p q = absurd (q.0 p.0)
one_width N v (no m) (ok s) p q = absurd (p.0 q.0)
one_width N v (no m) (no n) p q = ap no (p.1 ∙ sym q.1)

-- SignExtend: the low bits of a signed number give its 64 bits back, and the two halves of its values. Assumes nothing.
use mathlib.Core.Path.{◌≡◌, sym, ap, ◌∙◌}
use mathlib.Core.Bool.{Bool, true, false, cond}
use Prim.Native.Nat.{ℕ, suc, ◌+◌, ◌-◌, ◌*◌, ◌/◌, ◌%◌, ◌^◌, ◌<◌, ◌≤◌}
use native.Mathlib.Nat.{mod-eq_of_lt, suc-mul, div-lt_iff_lt-mul, le-div_iff_mul-le}
use native.Mathlib.Omega.{arith}
use borrow.Author.Tests.{lt-ltb, le-ltb}
use lib.Arith.{digits_mod}
use lib.Dec.{ltb}
use lib.IntN.{ℤ, pos, negsuc}
use lib.Pow.{pow-add, pow_pos, pow_mono}
use lib.Signed.{mag}
use mir.Syntax.{w64}
use mir.Val.{of_z}
use Rattle.arm.specs.Bits.{SignExtend}

-- ---- powers and shifts

pub power : (k n : ℕ) → k ≤ n → 2 ^ n ≡ 2 ^ (n - k) * 2 ^ k
power k n h = let e : n - k + k ≡ n = omega arith in sym (ap (λ (i : ℕ). 2 ^ i) e) ∙ pow-add 2 (n - k) k

pub double : (t : ℕ) → 1 ≤ t → 2 ^ t ≡ 2 ^ (t - 1) * 2
double t h = power 1 t h

-- a shift leaves nothing exactly of what is below the power
module _ (t v : ℕ) where
  pub shr_zero : v / 2 ^ t ≡ 0 → v < 2 ^ t
  shr_zero e = omega (arith, (div-lt_iff_lt-mul {k = 2 ^ t} {x = v} {y = 1} (pow_pos t)).0 (omega arith))

  pub shr_more : (v / 2 ^ t ≡ 0 → ⊥) → 2 ^ t ≤ v
  shr_more n = omega (arith, (le-div_iff_mul-le {k = 2 ^ t} {x = 1} {y = v} (pow_pos t)).0 (omega arith))

-- ---- of a signed number's low bits

below : (j K s : ℕ) → 0 < s → s ≤ K → (suc j * K - s) % K ≡ K - s
below j K s h k =
    let e : suc j * K - s ≡ j * K + (K - s) = simp (suc-mul j K) (omega arith) in
    ap (λ (n : ℕ). n % K) e ∙ digits_mod j (omega arith)

-- a number from - 2 ^ (t - 1) up to below 2 ^ (t - 1) comes back from its low t bits
pub extend : (t : ℕ) → 1 ≤ t → t ≤ 64 → (d : ℤ) → mag d < 2 ^ (t - 1) → SignExtend t (of_z w64 d % 2 ^ t) ≡ of_z w64 d
extend t lo hi (pos a) n =
    let two = double t lo in
    rw (mod-eq_of_lt {n = a} {m = 2 ^ t} (omega arith), lt-ltb a (2 ^ (t - 1)) n)
extend t lo hi (negsuc a) n =
    let two = double t lo in
    let p = pow_pos (64 - t) in
    let many : 2 ^ 64 ≡ suc (2 ^ (64 - t) - 1) * 2 ^ t = power t 64 hi ∙ ap (λ (k : ℕ). k * 2 ^ t) {y = suc (2 ^ (64 - t) - 1)} (omega arith) in
    let e : (2 ^ 64 - suc a) % 2 ^ t ≡ 2 ^ t - suc a = ap (λ (N : ℕ). (N - suc a) % 2 ^ t) many ∙ below (2 ^ (64 - t) - 1) (2 ^ t) (suc a) (omega arith) (omega arith) in
    rw (e, le-ltb (2 ^ t - suc a) (2 ^ (t - 1)) (omega arith)) (omega arith)

-- ---- the two halves

module _ (t v : ℕ) where
  pub low_half : v / 2 ^ (t - 1) ≡ 0 → v ≡ SignExtend t v
  low_half z = rw (lt-ltb v (2 ^ (t - 1)) (shr_zero (t - 1) v z))

  pub high_half : t ≤ 64 → v < 2 ^ t → (v / 2 ^ (t - 1) ≡ 0 → ⊥) → (2 ^ 64 - 1) - (2 ^ t - 1 - v) ≡ SignExtend t v
  high_half h k z =
      let top : 2 ^ t ≤ 2 ^ 64 = pow_mono {j = 64} h in
      rw (le-ltb v (2 ^ (t - 1)) (shr_more (t - 1) v z)) (omega arith)

-- only 0 extends to 0
pub extended : (t v : ℕ) → 0 < v → SignExtend t v ≡ 0 → ⊥
extended t v h = go (ltb v (2 ^ (t - 1)))
  where
    go : (x : Bool) → cond x v (v + (2 ^ 64 - 2 ^ t)) ≡ 0 → ⊥
    go true e = omega arith
    go false e = omega arith

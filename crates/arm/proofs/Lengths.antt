-- The widths 32 and 64, and the element lengths 2, 4, .. 64. Assumes nothing.
use mathlib.Core.Path.{◌≡◌, refl, sym, subst⁻¹}
use mathlib.Core.Logic.{⊎_elim}
use Prim.Native.Nat.{ℕ, zero, suc, pred, ◌-◌, ◌*◌, ◌/◌, ◌%◌, ◌^◌, ◌≤◌, ◌<◌}
use native.Mathlib.Nat.{le-div_iff_mul-le, suc-pred-eq_of_pos}
use native.Mathlib.Omega.{arith}
use lib.Pow.{pow_pos}
use Rattle.arm.specs.Bits.{Ones, Replicate}
use Rattle.arm.specs.BitMasks.{IsWidth}
use Rattle.arm.specs.Elements.{Element}

-- what holds at each of 1 to 6, and at 32 and 64
pub at_each : (P : ℕ → Type 0) → P 1 → P 2 → P 3 → P 4 → P 5 → P 6 → (j : ℕ) → 1 ≤ j → j ≤ 6 → P j
at_each P a b c d e f zero h k = absurd (omega arith)
at_each P a b c d e f (suc zero) h k = a
at_each P a b c d e f (suc (suc zero)) h k = b
at_each P a b c d e f (suc (suc (suc zero))) h k = c
at_each P a b c d e f (suc (suc (suc (suc zero)))) h k = d
at_each P a b c d e f (suc (suc (suc (suc (suc zero))))) h k = e
at_each P a b c d e f (suc (suc (suc (suc (suc (suc zero)))))) h k = f
at_each P a b c d e f (suc (suc (suc (suc (suc (suc (suc j))))))) h k = absurd (omega arith)

pub at_element : {w e : ℕ} (P : ℕ → Type 0) → P 2 → P 4 → P 8 → P 16 → P 32 → P 64 → Element w e → P e
at_element P a b c d f g h = subst⁻¹ P h.is (at_each (λ (j : ℕ). P (2 ^ j)) a b c d f g h.log h.log_low h.log_high)

pub at_widths : (P : ℕ → Type 0) → P 32 → P 64 → (w : ℕ) → IsWidth w → P w
at_widths P a b w ww = ⊎_elim (λ (e : w ≡ 32). subst⁻¹ P e a) (λ (e : w ≡ 64). subst⁻¹ P e b) ww

pub width_le : {w : ℕ} → IsWidth w → w ≤ 64
width_le {w} ww = at_widths (λ (k : ℕ). k ≤ 64) (omega arith) (omega arith) w ww

pub width-pos : {w : ℕ} → IsWidth w → 0 < w
width-pos {w} ww = at_widths (λ (k : ℕ). 0 < k) (omega arith) (omega arith) w ww

pub ones_mod : {w : ℕ} → IsWidth w → Ones w % 2 ≡ 1
ones_mod {w} ww = at_widths (λ (k : ℕ). Ones k % 2 ≡ 1) refl refl w ww

-- an element length goes into the width a whole number of times, and at least once
abbrev Whole : ℕ → ℕ → Type 0
Whole w e = e ≤ w → e * (w / e) ≡ w

pub whole : {w e : ℕ} → IsWidth w → Element w e → e * (w / e) ≡ w
whole {w} {e} ww h =
    at_widths (λ (k : ℕ). Whole k e)
    (at_element (Whole 32) (omega arith) (omega arith) (omega arith) (omega arith) (omega arith) (omega arith) h)
    (at_element (Whole 64) (omega arith) (omega arith) (omega arith) (omega arith) (omega arith) (omega arith) h)
    w ww h.fits

pub once : {w e : ℕ} → Element w e → (m : ℕ) × (w / e ≡ suc m)
once {w} {e} h =
    let pos : 0 < e = rw h.is (pow_pos h.log) in
    let some : 0 < w / e = (le-div_iff_mul-le pos).1 (omega (arith, h.fits)) in
    (pred (w / e), sym (suc-pred-eq_of_pos some))

-- the copies in 64 bits, cut to the width
pub cut : {w e : ℕ} → IsWidth w → Element w e → Replicate e 1 (64 / e) / 2 ^ (64 - w) ≡ Replicate e 1 (w / e)
unfolding Replicate
cut {w} {e} ww h =
    at_widths (λ (k : ℕ). e ≤ k → Replicate e 1 (64 / e) / 2 ^ (64 - k) ≡ Replicate e 1 (k / e))
    (at_element (λ (i : ℕ). i ≤ 32 → Replicate i 1 (64 / i) / 2 ^ 32 ≡ Replicate i 1 (32 / i)) (λ q. refl) (λ q. refl) (λ q. refl) (λ q. refl) (λ q. refl) (λ q. absurd (omega arith)) h)
    (at_element (λ (i : ℕ). i ≤ 64 → Replicate i 1 (64 / i) / 1 ≡ Replicate i 1 (64 / i)) (λ q. refl) (λ q. refl) (λ q. refl) (λ q. refl) (λ q. refl) (λ q. refl) h)
    w ww h.fits

-- the copies in 64 bits are those in 32, twice
pub doubled : {e : ℕ} → Element 32 e → Replicate e 1 (64 / e) ≡ Replicate e 1 (32 / e) * 4294967297
unfolding Replicate
doubled {e} h =
    at_element (λ (i : ℕ). i ≤ 32 → Replicate i 1 (64 / i) ≡ Replicate i 1 (32 / i) * 4294967297)
    (λ q. refl) (λ q. refl) (λ q. refl) (λ q. refl) (λ q. refl) (λ q. absurd (omega arith)) h h.fits

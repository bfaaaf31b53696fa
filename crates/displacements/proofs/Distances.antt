-- A signed distance and its 64 bits: on the step, and in reach. Assumes nothing.
use Rattle.std.proofs.Common.{◌≡◌, ℕ, suc, ◌+◌, ◌-◌, ◌*◌, ◌/◌, ◌%◌, ◌^◌, ◌<◌, ◌≤◌, ℤ, pos, negsuc, nat_abs, arith, pow_mono, w64, SFits, of_z}
use Prim.Native.Nat.{◌∣◌}
use native.Mathlib.Nat.{dvd-sub, dvd_of_mod-eq-zero, mod-eq-zero_of_dvd, dvd-mul_left}
use lib.Pow.{mod-pow-add}
use lib.Signed.{mag}
use Rattle.arm.proofs.SignExtends.{power, double, shr_zero, shr_more}

-- ---- multiples of 2 ^ k

-- N - a is a multiple where N and a are
less : (m N a : ℕ) → m ∣ N → a % m ≡ 0 → (N - a) % m ≡ 0
less m N a h e = mod-eq-zero_of_dvd m (dvd-sub m h (dvd_of_mod-eq-zero m e))

whole : (k : ℕ) → k ≤ 64 → 2 ^ k ∣ 2 ^ 64
whole k h = rw (power k 64 h) (dvd-mul_left (2 ^ k) (2 ^ (64 - k)))

module _ (k : ℕ) (h : k ≤ 64) where
  pub steps_bits : (d : ℤ) → nat_abs d % 2 ^ k ≡ 0 → of_z w64 d % 2 ^ k ≡ 0
  steps_bits (pos a) e = e
  steps_bits (negsuc a) e = less (2 ^ k) (2 ^ 64) (suc a) (whole k h) e

  pub bits_steps : (d : ℤ) → SFits w64 d → of_z w64 d % 2 ^ k ≡ 0 → nat_abs d % 2 ^ k ≡ 0
  bits_steps (pos a) f e = e
  bits_steps (negsuc a) f e =
      let back : 2 ^ 64 - (2 ^ 64 - suc a) ≡ suc a = omega (arith, f.sfits) in
      rw back at (less (2 ^ k) (2 ^ 64) (2 ^ 64 - suc a) (whole k h) e)

-- the steps of a distance, modulo the field's values, times the step
pub steps_back : (b k x : ℕ) → x % 2 ^ k ≡ 0 → x / 2 ^ k % 2 ^ b * 2 ^ k ≡ x % 2 ^ (b + k)
steps_back b k x e = omega (arith, mod-pow-add x b k)

-- ---- in reach: moved up by the reach, the bits are below twice the reach

near : (R : ℕ) → R ≤ 2 ^ 62 → (d : ℤ) → SFits w64 d → (of_z w64 d + R) % 2 ^ 64 < R * 2 → mag d < R
near R h (pos a) f n = omega (arith, f.sfits)
near R h (negsuc a) f n = omega (arith, f.sfits)

far : (R : ℕ) → (d : ℤ) → SFits w64 d → R * 2 ≤ (of_z w64 d + R) % 2 ^ 64 → R ≤ mag d
far R (pos a) f n = omega (arith, f.sfits)
far R (negsuc a) f n = omega (arith, f.sfits)

module _ (t : ℕ) (lo : 1 ≤ t) (hi : t < 63) (d : ℤ) (f : SFits w64 d) (y : ℕ) (e : y ≡ (of_z w64 d + 2 ^ (t - 1)) % 2 ^ 64) where
  pub in_reach : y / 2 ^ t ≡ 0 → mag d < 2 ^ (t - 1)
  in_reach z = near (2 ^ (t - 1)) (pow_mono {j = 62} (omega arith)) d f (omega (arith, shr_zero t y z, double t lo))

  pub out_of_reach : (y / 2 ^ t ≡ 0 → ⊥) → 2 ^ (t - 1) ≤ mag d
  out_of_reach z = far (2 ^ (t - 1)) d f (omega (arith, shr_more t y z, double t lo))

-- A rotation of 64 bits: its two parts stand apart. Assumes nothing.
use mathlib.Core.Path.{◌≡◌, ap, ◌∙◌}
use mathlib.Core.Logic.{⊎_elim}
use Prim.Native.Nat.{ℕ, ◌+◌, ◌-◌, ◌*◌, ◌/◌, ◌%◌, ◌^◌, ◌≤◌, ◌<◌}
use native.Mathlib.Nat.{add_comm, div-one, eq-or-lt_of_le, mod-eq_of_lt, mod-lt, mul-one, sub-add_cancel, add-sub_of_le}
use native.Mathlib.Omega.{arith}
use lib.Bits.{bit_or, or_self, or_shifted_r}
use lib.Pow.{low, pow-add, pow_pos, shl_lt, shr_lt, split}
use Rattle.std.specs.Int.{rotate_right, w64}
use Rattle.arm.specs.Bits.{ROR}

-- a shift to the left that drops what leaves the top
shl_mod : (x j k : ℕ) → x * 2 ^ k % 2 ^ (j + k) ≡ x % 2 ^ j * 2 ^ k
shl_mod x j k =
    let is : x * 2 ^ k ≡ x / 2 ^ j * 2 ^ (j + k) + x % 2 ^ j * 2 ^ k = rw pow-add (omega (arith, ap (λ (n : ℕ). n * 2 ^ k) (split x j))) in
    ap (λ (n : ℕ). n % 2 ^ (j + k)) is ∙ low (x / 2 ^ j) (j + k) (shl_lt j k (mod-lt x (pow_pos j)))

-- std's rotation is Arm's
pub rotated : (x e : ℕ) → x < 2 ^ 64 → 0 < e → e ≤ 64 → rotate_right w64 x e ≡ ROR 64 x e
rotated x e fits pos h = ⊎_elim whole part (eq-or-lt_of_le h)
  where
    whole : e ≡ 64 → bit_or (x / 2 ^ (e % 64)) (x * 2 ^ ((64 - e % 64) % 64) % 2 ^ 64) ≡ ROR 64 x e
    whole q = rw (q, div-one x, mul-one x, mod-eq_of_lt fits) (or_self x ∙ omega arith)

    part : e < 64 → bit_or (x / 2 ^ (e % 64)) (x * 2 ^ ((64 - e % 64) % 64) % 2 ^ 64) ≡ ROR 64 x e
    part b =
        let all : e + (64 - e) ≡ 64 = add-sub_of_le h in
        let all' : 64 - e + e ≡ 64 = sub-add_cancel h in
        let r : e % 64 ≡ e = mod-eq_of_lt b in
        let back : (64 - e) % 64 ≡ 64 - e = omega arith in
        let up : x * 2 ^ (64 - e) % 2 ^ 64 ≡ x % 2 ^ e * 2 ^ (64 - e) = rw all at (shl_mod x e (64 - e)) in
        rw (r, back, up) (or_shifted_r (x % 2 ^ e) (64 - e) (x / 2 ^ e) (shr_lt (64 - e) e (rw all' fits)) ∙ add_comm _ _)

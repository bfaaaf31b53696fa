-- Reading an 8-bit value back from what it expands to: floats over the exponent and fraction bits, byte masks over the bytes. Assumes nothing.
use mathlib.Core.Path.{◌≡◌, refl, sym, ap, ◌∙◌}
use mathlib.Core.Logic.{◌⊎◌, inl, inr, ⊎_elim}
use Prim.Native.Nat.{ℕ, zero, suc, ◌+◌, ◌-◌, ◌*◌, ◌/◌, ◌%◌, ◌^◌, ◌<◌}
use native.Mathlib.Nat.{add-zero, zero-add, suc-add, mul-suc, div-one, mul-div_cancel, mod-eq_of_lt, mod-mod, mul-div-mul_right}
use native.Mathlib.Omega.{arith}
use lib.Arith.{digits_div}
use lib.Pow.{pow_pos, pow-add, mod-pow-add, shr-shr}
use Rattle.arm.specs.Bits.{Replicate}
use Rattle.arm.specs.Immediates.{VFPExpand, VFPExpandImm, byte_masks}
use Rattle.arm.specs.Imm8.{read_float, read_mask, float_sum, mask_sum}

-- ---- floats

pub read_below : (E F x : ℕ) → read_float E F x < 256
read_below E F x = omega arith

zeros : (k : ℕ) → Replicate 1 0 k ≡ 0
unfolding Replicate
zeros zero = refl
zeros (suc k) = omega (arith, zeros k)

ones : (k : ℕ) → Replicate 1 1 k + 1 ≡ 2 ^ k
unfolding Replicate
ones zero = refl
ones (suc k) = omega (arith, ones k)

bit : (n : ℕ) → (n % 2 ≡ 0) ⊎ (n % 2 ≡ 1)
bit zero = inl refl
bit (suc n) = ⊎_elim (λ (h : n % 2 ≡ 0). inr (omega arith)) (λ (h : n % 2 ≡ 1). inl (omega arith)) (bit n)

-- NOT(t) : Replicate(t, k + 1) for a bit t: 2 ^ (k + 1), or one less
abbrev turn : ℕ → ℕ → ℕ
turn k t = (1 - t) * 2 ^ suc k + Replicate 1 t (suc k)

turn_is : (k b : ℕ) → turn k (b % 2) + b % 2 ≡ 2 * 2 ^ k
turn_is k b =
    ⊎_elim
    (λ (h : b % 2 ≡ 0). rw h (omega (arith, zeros (suc k))))
    (λ (h : b % 2 ≡ 1). rw h (omega (arith, ones (suc k))))
    (bit b)

-- the upper E + 5 bits of a float, for E = k + 4
abbrev top : ℕ → ℕ → ℕ
top k b = b / 128 % 2 * (2 ^ k * 256) + (turn k (b / 64 % 2) * 64 + (b / 16 % 4 * 16 + b % 16))

gather : (K U s q c d : ℕ) → (s * (K * 16) + (q * 4 + c)) * (U * 16) + d * U ≡ (s * (K * 256) + (q * 64 + (c * 16 + d))) * U
gather K U s q c d = omega arith

top_is : (k u b : ℕ) → VFPExpand (k + 4) (u + 4) b ≡ top k b * 2 ^ u
top_is k u b =
    let e : k + 4 - 3 ≡ suc k = omega arith in
    let f : u + 4 - 4 ≡ u = omega arith in
    simp (e, f, pow-add, div-one, add-zero) (gather (2 ^ k) (2 ^ u) (b / 128 % 2) (turn k (b / 64 % 2)) (b / 16 % 4) (b % 16))

-- the sign and the low seven bits of that
module _ (K s q t l : ℕ) (some : 0 < K) (turned : q + t ≡ 2 * K) (one : t < 2) (six : l < 64) where
  sign : (s * (K * 256) + (q * 64 + l)) / (K * 256) ≡ s
  sign = digits_div s (omega arith)

  rest : (s * (K * 256) + (q * 64 + l)) % 128 ≡ t * 64 + l
  rest = omega arith

joined : (b : ℕ) → b < 256 → b / 128 % 2 * 128 + (b / 64 % 2 * 64 + (b / 16 % 4 * 16 + b % 16)) ≡ b
joined b h = rw (← mod-pow-add b 2 4, ← mod-pow-add b 1 6, ← mod-pow-add b 1 7) (mod-eq_of_lt h)

-- an 8-bit value is read back from its float, whatever the exponent and fraction bits: the shared fact for 16, 32 and 64
pub float_back : (k u b : ℕ) → b < 256 → read_float (k + 4) (u + 4) (VFPExpand (k + 4) (u + 4) b) ≡ b
float_back k u b h =
    let f : u + 4 - 4 ≡ u = omega arith in
    let l = b / 16 % 4 * 16 + b % 16 in
    let high = sign (2 ^ k) (b / 128 % 2) (turn k (b / 64 % 2)) (b / 64 % 2) l (pow_pos k) (turn_is k (b / 64)) (omega arith) (omega arith) in
    let low = rest (2 ^ k) (b / 128 % 2) (turn k (b / 64 % 2)) (b / 64 % 2) l (pow_pos k) (turn_is k (b / 64)) (omega arith) (omega arith) in
    let p : 2 ^ (k + 4 + (u + 4)) ≡ 2 ^ k * 256 * 2 ^ u = simp pow-add (omega arith) in
    rw (top_is k u b, p, f, mul-div-mul_right (top k b) (2 ^ k * 256) (pow_pos u), mul-div_cancel (top k b) (pow_pos u), high, low, mod-mod)
    (joined b h)

weigh : (K U s q t l : ℕ) → q + t ≡ 2 * K → (s * (K * 256) + (q * 64 + l)) * U ≡ s * (K * U * 256) + (K * U * 128 - t * (U * 64)) + l * U
weigh K U s q t l h = let e : (q + t) * (U * 64) ≡ 2 * K * (U * 64) = ap (λ (n : ℕ). n * (U * 64)) h in omega arith

-- the float by the bits' weights
pub float_is : (k u b : ℕ) → b < 256 → VFPExpand (k + 4) (u + 4) b ≡ float_sum k u b
float_is k u b h =
    let s : b / 128 % 2 ≡ b / 128 = omega arith in
    top_is k u b
    ∙ rw (s, ← mod-pow-add b 2 4)
    (weigh (2 ^ k) (2 ^ u) (b / 128) (turn k (b / 64 % 2)) (b / 64 % 2) (b % 64) (turn_is k (b / 64))
    ∙ sym (simp (pow-add) (omega arith)))

-- at 16, 32 and 64: E = 5, 8, 11 and F = 10, 23, 52
pub back16 : (b : ℕ) → b < 256 → read_float 5 10 (VFPExpandImm 16 b) ≡ b
unfolding VFPExpandImm
back16 = float_back 1 6

pub back32 : (b : ℕ) → b < 256 → read_float 8 23 (VFPExpandImm 32 b) ≡ b
unfolding VFPExpandImm
back32 = float_back 4 19

pub back64 : (b : ℕ) → b < 256 → read_float 11 52 (VFPExpandImm 64 b) ≡ b
unfolding VFPExpandImm
back64 = float_back 7 48

pub sum16 : (b : ℕ) → b < 256 → float_sum 1 6 b ≡ VFPExpandImm 16 b
unfolding VFPExpandImm
sum16 b h = sym (float_is 1 6 b h)

pub sum32 : (b : ℕ) → b < 256 → float_sum 4 19 b ≡ VFPExpandImm 32 b
unfolding VFPExpandImm
sum32 b h = sym (float_is 4 19 b h)

pub sum64 : (b : ℕ) → b < 256 → float_sum 7 48 b ≡ VFPExpandImm 64 b
unfolding VFPExpandImm
sum64 b h = sym (float_is 7 48 b h)

-- ---- byte masks

-- the lowest byte, and the bytes above it
pub mask_step : (n b : ℕ) → byte_masks (suc n) b ≡ b % 2 * 255 + byte_masks n (b / 2) * 256
unfolding byte_masks Replicate
mask_step n b = omega arith

-- the bits are read back from their mask, whatever the number of bytes
pub mask_back : (n b : ℕ) → b < 2 ^ n → read_mask n (byte_masks n b) ≡ b
unfolding read_mask
mask_back zero b h = omega arith
mask_back (suc n) b h =
    let m = byte_masks n (b / 2) in
    let low : (b % 2 * 255 + m * 256) % 2 ≡ b % 2 = omega arith in
    let rest : (b % 2 * 255 + m * 256) / 256 ≡ m = omega arith in
    rw (mask_step n b, low, rest, mask_back n (b / 2) (omega arith)) (omega arith)

-- the mask by the bits' weights
pub mask_sum_lem : (n b : ℕ) → mask_sum n b ≡ byte_masks n b
unfolding byte_masks mask_sum
mask_sum_lem zero b = refl
mask_sum_lem (suc n) b = omega (arith, mask_sum_lem n (b / 2), mask_step n b)

-- one byte, or one bit, and then m more
pub byte_up : (m x : ℕ) → x / 2 ^ (8 * suc m) ≡ x / 256 / 2 ^ (8 * m)
byte_up m x = let e : 8 * suc m ≡ 8 + 8 * m = omega arith in rw (e, ← shr-shr x 8 (8 * m))

pub bit_up : (m x : ℕ) → x / 2 ^ suc m ≡ x / 2 / 2 ^ m
bit_up m x = let e : suc m ≡ 1 + m = omega arith in rw (e, ← shr-shr x 1 m)

bytes_up : (m : ℕ) → 2 ^ (8 * suc m) ≡ 2 ^ (8 * m) * 256
bytes_up m = simp mul-suc (pow-add 2 (8 * m) 8)

-- n bytes are read as n bits, and n bits give n bytes
pub read_few : (n x : ℕ) → read_mask n x < 2 ^ n
unfolding read_mask
read_few zero x = omega arith
read_few (suc n) x = omega (arith, read_few n (x / 256))

pub sum_few : (n b : ℕ) → mask_sum n b < 2 ^ (8 * n)
unfolding mask_sum
sum_few zero b = omega arith
sum_few (suc n) b = rw (bytes_up n) (omega (arith, sum_few n (b / 2)))

-- m bytes, and the n bytes above them
module _ (n : ℕ) where
  pub read_parts : (m x : ℕ) → read_mask (m + n) x ≡ read_mask m x + read_mask n (x / 2 ^ (8 * m)) * 2 ^ m
  unfolding read_mask
  read_parts zero x = simp (zero-add, div-one) (omega arith)
  read_parts (suc m) x =
      let e : 2 ^ suc m ≡ 2 ^ m * 2 = omega arith in
      rw (suc-add m n, e, byte_up m x, read_parts m (x / 256)) (omega arith)

  pub sum_parts : (m b : ℕ) → mask_sum (m + n) b ≡ mask_sum m b + mask_sum n (b / 2 ^ m) * 2 ^ (8 * m)
  unfolding mask_sum
  sum_parts zero b = simp (zero-add, div-one) (omega arith)
  sum_parts (suc m) b = rw (suc-add m n, bytes_up m, bit_up m b, sum_parts m (b / 2)) (omega arith)

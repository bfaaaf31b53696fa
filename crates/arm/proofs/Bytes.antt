-- Byte masks, byte by byte: byte i of a mask is FF where bit i is set and 00 elsewhere, and every number of such bytes is a mask.
-- Assumes nothing.
use mathlib.Core.Path.{◌≡◌, ◌∙◌}
use mathlib.Core.Logic.{◌⊎◌, ⊎_elim}
use Prim.Native.Nat.{ℕ, zero, suc, ◌+◌, ◌*◌, ◌/◌, ◌%◌, ◌^◌, ◌<◌}
use native.Mathlib.Nat.{div-one}
use native.Mathlib.Omega.{arith}
use lib.Pow.{shr_lt}
use Rattle.arm.specs.Immediates.{byte_masks}
use Rattle.arm.proofs.Expand.{byte_up, bit_up, mask_step}

-- byte i and bit i
abbrev pub byte_at : ℕ → ℕ → ℕ
byte_at i x = x / 2 ^ (8 * i) % 2 ^ 8

abbrev pub bit_at : ℕ → ℕ → ℕ
bit_at i x = x / 2 ^ i % 2

low_byte : (n b : ℕ) → byte_masks (suc n) b % 256 ≡ b % 2 * 255
low_byte n b = rw (mask_step n b) (omega arith)

high_bytes : (n b : ℕ) → byte_masks (suc n) b / 256 ≡ byte_masks n (b / 2)
high_bytes n b = rw (mask_step n b) (omega arith)

pub mask_byte : (n b i : ℕ) → i < n → byte_at i (byte_masks n b) ≡ bit_at i b * 255
mask_byte zero b i h = absurd (omega arith)
mask_byte (suc n) b zero h = simp div-one (low_byte n b)
mask_byte (suc n) b (suc i) h =
    rw (byte_up i (byte_masks (suc n) b), bit_up i b, high_bytes n b) (mask_byte n (b / 2) i (omega arith))

abbrev pub Whole : ℕ → Type 0
Whole x = (x ≡ 0) ⊎ (x ≡ 255)

pub record Masked (n v : ℕ) : Type 0 where
  pub bits : ℕ
  pub few : bits < 2 ^ n
  pub is : byte_masks n bits ≡ v

none : (v : ℕ) → v < 1 → Masked 0 v
unfolding byte_masks
none v h = record { bits = 0; few = omega arith; is = omega arith }

more : (n v t : ℕ) → t < 2 → v % 256 ≡ t * 255 → Masked n (v / 256) → Masked (suc n) v
more n v t h e m =
    let low : (t + m.bits * 2) % 2 ≡ t = omega arith in
    let high : (t + m.bits * 2) / 2 ≡ m.bits = omega arith in
    record {
      bits = t + m.bits * 2;
      few = omega (arith, m.few);
      is = mask_step n (t + m.bits * 2) ∙ rw (low, high, m.is) (omega arith);
    }

pub mask_of_lem : (n v : ℕ) → v < 2 ^ (8 * n) → ((i : ℕ) → i < n → Whole (byte_at i v)) → Masked n v
mask_of_lem zero v h bytes = none v h
mask_of_lem (suc n) v h bytes =
    let e : 8 * suc n ≡ 8 * n + 8 = omega arith in
    let rest = mask_of_lem n (v / 256) (shr_lt (8 * n) 8 (rw e at h)) (λ i l. rw (← byte_up i v) (bytes (suc i) (omega arith))) in
    ⊎_elim
    (λ (e : v % 256 ≡ 0). more n v 0 (omega arith) (omega arith) rest)
    (λ (e : v % 256 ≡ 255). more n v 1 (omega arith) (omega arith) rest)
    (rw div-one at (bytes 0 (omega arith)))

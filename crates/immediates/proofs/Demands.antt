-- What the contracts of the two encoders and of the tests amount to, sentence by sentence. Assumes nothing.
use mathlib.Core.Path.{◌≡◌, refl, sym, ap, ◌∙◌}
use mathlib.Core.Bool.{Bool, true, false}
use mathlib.Core.Logic.{◌⊎◌, inl, inr}
use Prim.Native.Nat.{ℕ, zero, suc, ◌*◌, ◌%◌, ◌^◌, ◌<◌}
use native.Mathlib.Omega.{arith}
use Rattle.arm.specs.Immediates.{VFPExpandImm, ByteMask}
use Rattle.arm.proofs.Bytes.{byte_at, bit_at, Whole, mask_byte, mask_of_lem}
use Rattle.words.specs.Said.{Said, ok, no}
use Rattle.words.proofs.Answers.{not_both}
use Rattle.immediates.specs.Says.{Spells, IsFloatWidth, FloatSays, MaskSays, Tests}
use Rattle.immediates.specs.Steps.{is_ok}
use Rattle.immediates.proofs.Determined.{one_float}

-- ---- floats, at each width N

abbrev pub Float : ℕ → ℕ → ℕ → Type 0
Float N v b = (b < 256) × (VFPExpandImm N b ≡ v % 2 ^ N)

module _ (N v : ℕ) where
  -- "the one returned does": it expands to the low N bits of the value
  pub float_answer : (b : ℕ) → FloatSays N v (ok b) → IsFloatWidth N × Float N v b
  unfolding FloatSays Spells
  float_answer b (inl s) = s
  float_answer b (inr s) = absurd (not_both s.1)

  -- "accepted exactly if some 8-bit value expands to it", and then as that value
  pub float_accepted : (b : ℕ) (a : Said ℕ) → IsFloatWidth N → Float N v b → FloatSays N v a → a ≡ ok b
  unfolding FloatSays Spells
  float_accepted b a w f s = one_float N v a (ok b) s (inl (w, f))

  -- 3 exactly where the width is one of the three and no 8-bit value expands to it
  pub float_refused : FloatSays N v (no 3) → IsFloatWidth N × ((b : ℕ) → Float N v b → ⊥)
  unfolding FloatSays Spells
  float_refused (inl s) = (s.0, λ b f. s.1.1 b f.0 f.1)
  float_refused (inr s) = let e : ◌≡◌ {A = ℕ} 3 1 = cc s.1 in absurd (omega arith)

  pub float_none : (a : Said ℕ) → IsFloatWidth N → ((b : ℕ) → Float N v b → ⊥) → FloatSays N v a → a ≡ no 3
  unfolding FloatSays Spells
  float_none a w h s = one_float N v a (no 3) s (inl (w, (refl, λ b l e. h b (l, e))))

  -- 1 exactly at another width
  pub width_refused : FloatSays N v (no 1) → IsFloatWidth N → ⊥
  unfolding FloatSays Spells
  width_refused (inl s) w = let e : ◌≡◌ {A = ℕ} 1 3 = s.1.0 in omega arith
  width_refused (inr s) w = s.0 w

  pub width_none : (a : Said ℕ) → (IsFloatWidth N → ⊥) → FloatSays N v a → a ≡ no 1
  unfolding FloatSays
  width_none a h (inl s) = absurd (h s.0)
  width_none a h (inr s) = s.1

  -- no other number is given
  pub float_numbers : (n : ℕ) → FloatSays N v (no n) → (n ≡ 1) ⊎ (n ≡ 3)
  unfolding FloatSays Spells
  float_numbers n (inl s) = inr s.1.0
  float_numbers n (inr s) = inl (cc s.1)

  -- "bits above 16 or 32 are ignored": only the low N bits count
  pub high_bits : (w : ℕ) (a : Said ℕ) → v % 2 ^ N ≡ w % 2 ^ N → FloatSays N v a → FloatSays N w a
  unfolding FloatSays
  high_bits w a e s = rw (← e) s

-- ---- byte masks

whole : (t : ℕ) → t < 2 → Whole (t * 255)
whole zero h = inl refl
whole (suc zero) h = inr refl
whole (suc (suc t)) h = absurd (omega arith)

module _ (v : ℕ) where
  -- "a byte mask's answer expands back to the value"
  pub mask_answer : (b : ℕ) → MaskSays v (ok b) → (b < 256) × (ByteMask b ≡ v)
  unfolding Spells
  mask_answer b s = s

  -- "byte i is bit i": byte i is FF where bit i is set and 00 where it is clear
  pub mask_bits : (b : ℕ) → MaskSays v (ok b) → (i : ℕ) → i < 8 → byte_at i v ≡ bit_at i b * 255
  unfolding Spells
  mask_bits b s i h = ap (byte_at i) (sym s.1) ∙ mask_byte 8 b i h

  -- "accepted exactly if each byte is 00 or FF"
  pub mask_whole : (b : ℕ) → MaskSays v (ok b) → (i : ℕ) → i < 8 → Whole (byte_at i v)
  mask_whole b s i h = rw (mask_bits b s i h) (whole (bit_at i b) (omega arith))

  pub mask_accepted : (a : Said ℕ) → v < 2 ^ 64 → ((i : ℕ) → i < 8 → Whole (byte_at i v)) → MaskSays v a → is_ok a ≡ true
  unfolding Spells
  mask_accepted (ok b) l h s = refl
  mask_accepted (no n) l h s = let m = mask_of_lem 8 v l h in absurd (s.1 m.bits m.few m.is)

  -- else 3
  pub mask_refused : (n : ℕ) → MaskSays v (no n) → n ≡ 3
  unfolding Spells
  mask_refused n s = s.0

-- ---- the tests

-- a test is true exactly where the encoder gives an answer
pub test_is : (f : ℕ → ℕ) (x : ℕ) (t : Bool) (a : Said ℕ) → Tests f x t → Spells f x a → t ≡ is_ok a
unfolding Tests Spells
test_is f x true (ok b) p s = refl
test_is f x true (no n) p s = absurd (s.1 p.0 p.1 p.2)
test_is f x false (ok b) p s = absurd (p b s.0 s.1)
test_is f x false (no n) p s = refl

pub float_test :
    (N v : ℕ) (t : Bool) (a : Said ℕ) → IsFloatWidth N → Tests (VFPExpandImm N) (v % 2 ^ N) t → FloatSays N v a → t ≡ is_ok a
unfolding FloatSays
float_test N v t a w p (inl s) = test_is (VFPExpandImm N) (v % 2 ^ N) t a p s.1
float_test N v t a w p (inr s) = absurd (s.0 w)

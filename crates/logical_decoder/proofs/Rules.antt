-- The sentences of document 01's module 4 that the promises do not say word by word, over the width; then at 32 and 64. Assumes nothing.
use mathlib.Core.Path.{◌≡◌, refl}
use mathlib.Core.Logic.{◌⊎◌, inl, inr, ⊎_elim}
use Prim.Native.Nat.{ℕ, ◌^◌, ◌<◌}
use native.Mathlib.Omega.{arith}
use lib.Pow.{lt_of_le_ones}
use Rattle.arm.specs.BitMasks.{IsWidth}
use Rattle.arm.proofs.Laws.{shape}
use Rattle.words.specs.Said.{Said, ok, no}
use Rattle.logical.specs.Answer.{Encoded}
use Rattle.logical.specs.declared.LogicalImm.{LogicalImm}
use Rattle.logical_decoder.specs.Answer.{Decoded, Normal}
use Rattle.logical_decoder.proofs.Laws.{decoded_one, normal_of}

pub record Rules (w : ℕ) : Type 0 where
  -- "N above 1, S or R above 63: refusal 3"; a mask has no bits above the width
  pub outside_refused : (n s r : ℕ) (a : Said ℕ) → (1 < n) ⊎ ((63 < s) ⊎ (63 < r)) → Decoded w n s r a → a ≡ no 3
  pub mask_fits : (n s r m : ℕ) → Decoded w n s r (ok m) → m < 2 ^ w
  -- "Normalising decodes, then encodes"
  pub normalised : (n s r m : ℕ) (a : Said LogicalImm) → Decoded w n s r (ok m) → Encoded w m a → Normal w n s r a
  pub not_normalised : (n s r k : ℕ) → Decoded w n s r (no k) → Normal w n s r (no k)

module _ (w : ℕ) (ww : IsWidth w) where
  outside : (n s r : ℕ) (a : Said ℕ) → (1 < n) ⊎ ((63 < s) ⊎ (63 < r)) → Decoded w n s r a → a ≡ no 3
  outside n s r a out h = decoded_one w n s r a (no 3) h (inr (
    refl,
    ww,
    λ l.
        ⊎_elim (λ (k : 1 < n). omega (arith, l.n_bits)) (⊎_elim (λ (k : 63 < s). omega (arith, l.s_bits)) (λ (k : 63 < r). omega (arith, l.r_bits))) out,
  ))

  pub rules : Rules w
  rules = record {
    outside_refused = outside;
    mask_fits = λ n s r m d. rw (← d.1.mask) (lt_of_le_ones w (shape ww d.1.legal).small);
    normalised = normal_of w;
    not_normalised = λ n s r k h. h;
  }

pub rules_32 : Rules 32
rules_32 = rules 32 (inl refl)

pub rules_64 : Rules 64
rules_64 = rules 64 (inr refl)

-- "and for N = 1 at width 32"
pub one_at_32 : (s r : ℕ) (a : Said ℕ) → Decoded 32 1 s r a → a ≡ no 3
one_at_32 s r a h = decoded_one 32 1 s r a (no 3) h (inr (refl, inl refl, λ l. omega (arith, l.narrow refl)))

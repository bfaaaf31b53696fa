-- What the promises of the decoder and the normaliser say, by themselves and together with the encoder's. Assumes nothing.
use mathlib.Core.Path.{◌≡◌, refl, sym, ap, ◌∙◌, subst⁻¹}
use Prim.Native.Nat.{ℕ, ◌%◌, ◌^◌, ◌≤◌}
use native.Mathlib.Nat.{mod-eq_of_lt, mod-le}
use native.Mathlib.Omega.{arith}
use lib.Pow.{lt_of_le_ones}
use Rattle.arm.specs.BitMasks.{esize}
use Rattle.arm.proofs.Laws.{shape, turn_mask}
use Rattle.words.specs.Said.{Said, ok, no}
use Rattle.logical.specs.declared.LogicalImm.{LogicalImm}
use Rattle.logical.specs.Answer.{fields, Decodes, Encoded}
use Rattle.logical.proofs.Laws.{not_refused, one_number, encoded_one}
use Rattle.logical_decoder.specs.Answer.{Decoded, Normal}

-- ---- one answer

pub decoded_one : (w n s r : ℕ) (a b : Said ℕ) → Decoded w n s r a → Decoded w n s r b → a ≡ b
decoded_one w n s r (ok m) (ok m') a b = ap ok (sym a.1.mask ∙ b.1.mask)
decoded_one w n s r (ok m) (no k) a b = not_refused a.0 (λ none. none a.1.legal) b
decoded_one w n s r (no k) (ok m) a b = not_refused b.0 (λ none. none b.1.legal) a
decoded_one w n s r (no j) (no k) a b = ap no (one_number a b)

pub normal_one : (w n s r : ℕ) (a b : Said LogicalImm) → Normal w n s r a → Normal w n s r b → a ≡ b
normal_one w n s r (ok f) (ok g) a b = ap ok (a.2 ∙ sym b.2)
normal_one w n s r (ok f) (no k) a b = not_refused a.0 (λ none. none a.1) b
normal_one w n s r (no k) (ok g) a b = not_refused b.0 (λ none. none b.1) a
normal_one w n s r (no j) (no k) a b = ap no (one_number a b)

-- ---- decoding, then encoding

-- the fields with R reduced are legal and decode to the same mask
pub reduced : {w n s r m : ℕ} → Decodes w n s r m → Decodes w n s (r % esize n s) m
reduced {w} {n} {s} {r} h =
    let a = h.legal in
    let low : r % esize n s ≤ 63 = omega (arith, mod-le r (esize n s), a.r_bits) in
    record {
      legal = record { n_bits = a.n_bits; s_bits = a.s_bits; r_bits = low; some_len = a.some_len; not-all = a.not-all; narrow = a.narrow };
      mask = turn_mask w n s r ∙ h.mask;
    }

pub again : (w n s r m : ℕ) → Decoded w n s r (ok m) → Encoded w m (ok (fields n s (r % esize n s)))
again w n s r m d =
    let a = shape d.0 d.1.legal in
    let low : m % 2 ^ w ≡ m = rw (← d.1.mask) (mod-eq_of_lt (lt_of_le_ones w a.small)) in
    (d.0, rw low (reduced d.1), a.turn, refl)

-- normalising is decoding, then encoding
pub normal_of : (w n s r m : ℕ) (a : Said LogicalImm) → Decoded w n s r (ok m) → Encoded w m a → Normal w n s r a
normal_of w n s r m a d e =
    let is : a ≡ ok (fields n s (r % esize n s)) = encoded_one w m a _ e (again w n s r m d) in
    subst⁻¹ (λ (b : Said LogicalImm). Normal w n s r b) is (d.0, d.1.legal, refl)

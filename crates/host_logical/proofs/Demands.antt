-- What a host reads from the answers of the entries on logical immediates, over the definitions that their contracts cite. Assumes nothing.
use mathlib.Core.Path.{◌≡◌, refl, sym, subst⁻¹}
use mathlib.Core.Logic.{⊎_elim}
use mathlib.Core.Bool.{Bool, true, false, cond, not, ◌||◌}
use Prim.Native.Nat.{ℕ}
use native.Mathlib.Omega.{arith}
use lib.Dec.{ltb, eqb}
use Rattle.words.specs.Said.{Said, ok, no}
use Rattle.words.specs.Answer.{IsNumber}
use Rattle.words.specs.declared.Refusal.TheVariants.{Width, Register, NoField, Unknown}
use Rattle.logical.specs.Answer.{Encoded}
use Rattle.logical.specs.declared.LogicalImm.{LogicalImm}
use Rattle.logical.proofs.Laws.{length_low}
use Rattle.logical_words.specs.Word.{base_of, filled, word_of}
use Rattle.host.specs.Number.{told, Reads}
use Rattle.host_logical.specs.Fields.{spelled}
use Rattle.host.proofs.Reading.{Small, told_reads}
use Rattle.host.proofs.Demands.{Sane}
use Rattle.host_logical.proofs.Reading.{Bytes, told_bytes}

-- the encoder's numbers are 1 and 3
pub number_sane : (w v k : ℕ) → Encoded w v (no k) → IsNumber k
number_sane w v k h = ⊎_elim (λ a. (Width, sym a.0)) (λ b. (NoField, sym b.0)) h

pub word_sane : (operation w v rn rd : ℕ) (a : Said LogicalImm) → Encoded w v a → Sane (word_of operation w rn rd a)
unfolding word_of
word_sane operation w v rn rd a = go (ltb 3 operation) (not (eqb w 32 || eqb w 64)) (ltb 31 rn || ltb 31 rd) a
  where
    go : (b c d : Bool) (a : Said LogicalImm) → Encoded w v a → Sane (cond b (no 7) (cond c (no 1) (cond d (no 2) (filled (base_of operation w) rn rd a))))
    go true c d a h = (Unknown, refl)
    go false true d a h = (Width, refl)
    go false false true a h = (Register, refl)
    go false false false (ok f) h = omega arith
    go false false false (no k) h = number_sane w v k h

-- ---- those that write nothing

pub fields_read : (w v n : ℕ) (a : Said LogicalImm) → Encoded w v a → n ≡ told (spelled a) → Reads n (spelled a)
fields_read w v n a h e = subst⁻¹ (λ (k : ℕ). Reads k (spelled a)) e (told_reads (spelled a) (small a h))
  where
    small : (a : Said LogicalImm) → Encoded w v a → Small (spelled a)
    small (ok f) h = omega (arith, h.1.legal.n_bits, h.1.legal.s_bits, h.1.legal.r_bits, length_low h.0 h.1.legal h.3)
    small (no k) h = number_sane w v k h

-- each from its byte; and the low 32 bits are what the whole answer was before the length joined it
pub fields_apart : (w v n : ℕ) (f : LogicalImm) → Encoded w v (ok f) → n ≡ told (spelled (ok f)) → Bytes n f.r f.s f.n f.length
fields_apart w v n f h e =
    told_bytes n f.r f.s f.n f.length e (omega (arith, h.1.legal.r_bits)) (omega (arith, h.1.legal.s_bits))
    (omega (arith, h.1.legal.n_bits)) (omega (arith, length_low h.0 h.1.legal h.3))

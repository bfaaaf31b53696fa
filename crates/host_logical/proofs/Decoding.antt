-- What a host reads and finds after a call of the decoder or the normaliser, by the entry's own contract. Assumes nothing.
use mathlib.Core.Path.{◌≡◌, refl, sym, ap, subst, subst⁻¹, ◌∙◌}
use mathlib.Core.Logic.{⊎_elim}
use mathlib.Core.List.{List, [], ◌∷◌}
use Prim.Native.Nat.{ℕ, ◌+◌, ◌*◌, ◌/◌, ◌%◌, ◌^◌}
use native.Mathlib.Nat.{mod-le}
use native.Mathlib.Omega.{arith}
use contract.Lifetimes.{Lfts}
use Rattle.std.proofs.Common.{MutBor}
use lib.ListN.{get_or}
use Rattle.arm.specs.BitMasks.{esize}
use Rattle.words.specs.Said.{Said, ok, no}
use Rattle.words.specs.Place.{place_at}
use Rattle.words.specs.declared.Refusal.TheVariants.{Width, NoField}
use Rattle.words.proofs.Answers.{number_fits, not_both}
use Rattle.logical.specs.Answer.{Decodes}
use Rattle.logical.specs.declared.LogicalImm.{LogicalImm}
use Rattle.logical.proofs.Laws.{length_low}
use Rattle.logical_decoder.specs.Answer.{Decoded, Normal}
use Rattle.host.specs.Number.{told, refusal_in, Reads, words_from}
use Rattle.host_logical.specs.Fields.{spelled, fields_in, words_of_mask, mask_in}
use Rattle.host.proofs.Reading.{Small, told_reads}
use Rattle.host.proofs.Demands.{Sane}
use Rattle.host.proofs.Boundary.{Refusals, known, found, refusal}
use Rattle.host_logical.proofs.Reading.{told_bytes}
use Rattle.host_logical.proofs.vaimalofo_normalise_logical.Reads as normalise_logical
use Rattle.host_logical.proofs.vaimalofo_decode_logical.Reads as decode_logical

-- ---- the decoder

mask_sane : (w n s r : ℕ) (a : Said ℕ) → Decoded w n s r a → Sane (words_of_mask a)
mask_sane w n s r (ok m) h = omega arith
mask_sane w n s r (no k) h = ⊎_elim (λ a. (Width, sym a.0)) (λ b. (NoField, sym b.0)) h

module _ (k : Lfts 1) (bytes bytes' : MutBor (List ℕ)) (n s r width answer : ℕ)
    (p : decode_logical.Post k (bytes, (n, (s, (r, (width, tt))))) answer (bytes', (n, (s, (r, (width, tt)))))) where
  -- the mask that a host finds in the bytes is what Arm decodes the fields to
  pub decode_logical_mask : refusal_in answer ≡ 0 → Decodes width n s r (mask_in answer bytes'.now)
  decode_logical_mask z = go p.0 p.1 (found bytes.now (place_at 0 0) answer bytes'.now (words_of_mask p.0) (mask_sane width n s r p.0 p.1) p.2 z)
    where
      go : (a : Said ℕ) → Decoded width n s r a → words_of_mask a ≡ ok (words_from answer 0 bytes'.now) → Decodes width n s r (mask_in answer bytes'.now)
      go (ok m) d e =
          let ws = words_from answer 0 bytes'.now in
          let same : m % 2 ^ 32 ∷ m / 2 ^ 32 ∷ [] ≡ ws = cc in
          let mask : m ≡ get_or ws 0 0 + get_or ws 1 0 * 2 ^ 32 = subst (λ (vs : List ℕ). m ≡ get_or vs 0 0 + get_or vs 1 0 * 2 ^ 32) same (omega arith) in
          subst (Decodes width n s r) mask d.1
      go (no j) d e = absurd (not_both (sym e))

  pub decode_logical_refusal : Refusals answer
  decode_logical_refusal = refusal bytes.now (place_at 0 0) answer bytes'.now (words_of_mask p.0) (mask_sane width n s r p.0 p.1) p.2

-- ---- the normaliser

module _ (k : Lfts 0) (n s r width answer : ℕ) (p : normalise_logical.Post k (n, (s, (r, (width, tt)))) answer (n, (s, (r, (width, tt))))) where
  small : (a : Said LogicalImm) → Normal width n s r a → Small (spelled a)
  small (ok f) h = rw h.2 (omega (arith, h.1.n_bits, h.1.s_bits, h.1.r_bits, mod-le r (esize n s), length_low h.0 h.1 refl))
  small (no j) h = ⊎_elim (λ a. (Width, sym a.0)) (λ b. (NoField, sym b.0)) h

  reads : Reads answer (spelled p.0)
  reads = subst⁻¹ (λ (j : ℕ). Reads j (spelled p.0)) p.2 (told_reads (spelled p.0) (small p.0 p.1))

  -- what a host reads from the bytes: the same N and S, R reduced by the element length, and that length
  pub normalise_logical_read : refusal_in answer ≡ 0 → Normal width n s r (ok (fields_in answer))
  normalise_logical_read z = go p.0 p.1 p.2 reads
    where
      go : (a : Said LogicalImm) → Normal width n s r a → answer ≡ told (spelled a) → Reads answer (spelled a) → Normal width n s r (ok (fields_in answer))
      go (ok f) h e q =
          let b = told_bytes answer (r % esize n s) s n (esize n s) (e ∙ ap (λ (g : LogicalImm). told (spelled (ok g))) h.2)
          (omega (arith, h.1.r_bits, mod-le r (esize n s))) (omega (arith, h.1.s_bits)) (omega (arith, h.1.n_bits)) (omega (arith, length_low h.0 h.1 refl)) in
          (h.0, h.1, rw (b.first, b.second, b.third, b.fourth))
      go (no j) h e q = absurd (omega (arith, z, (number_fits q.0).0, q.1))

  pub normalise_logical_refusal : Refusals answer
  normalise_logical_refusal = known answer (spelled p.0) reads

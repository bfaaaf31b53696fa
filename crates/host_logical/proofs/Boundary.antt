-- Demand 2 at the host's boundary: what stands in the bytes or in the answer after a call, by the entry's own contract, is what Arm's decoder makes of
-- it. And a refusal is one of the refusals' numbers. Assumes nothing.
use mathlib.Core.Path.{◌≡◌, subst⁻¹}
use mathlib.Core.List.{List}
use Prim.Native.Nat.{ℕ, ◌+◌, ◌*◌, ◌^◌, ◌%◌}
use native.Mathlib.Omega.{arith}
use contract.Lifetimes.{Lfts}
use Rattle.std.proofs.Common.{MutBor}
use Rattle.arm.specs.BitMasks.{esize}
use Rattle.words.specs.Said.{Said, ok, no}
use Rattle.words.specs.Place.{place_at, Aligned}
use Rattle.words.specs.declared.Place.{Place}
use Rattle.words.proofs.Answers.{number_fits}
use Rattle.logical.specs.Answer.{Decodes, Encoded}
use Rattle.logical.specs.declared.LogicalImm.{LogicalImm}
use Rattle.logical_words.specs.Word.{word_of}
use Rattle.logical_words.specs.Meaning.{Means}
use Rattle.logical_words.proofs.Word.{word_alone}
use Rattle.logical_words.proofs.Demands.{word_means}
use Rattle.host.specs.Number.{told, refusal_in, Reads, word_at}
use Rattle.host_logical.specs.Fields.{spelled, byte_in, fields_in}
use Rattle.host_logical.proofs.Reading.{Bytes}
use Rattle.host.proofs.Demands.{fifteen}
use Rattle.host.proofs.Boundary.{Refusals, known, found_one, refusal}
use Rattle.host_logical.proofs.Demands.{word_sane, fields_read, fields_apart}
use Rattle.host_logical.proofs.vaimalofo_logical_fields.Reads as logical_fields
use Rattle.host_logical.proofs.vaimalofo_logical_word.Reads as logical_word

module _ (k : Lfts 1) (bytes bytes' : MutBor (List ℕ)) (base_address position answer : ℕ) where
  abbrev at : Place
  at = place_at base_address position

  abbrev l : List ℕ
  l = bytes.now

  abbrev l' : List ℕ
  l' = bytes'.now

  -- ---- the logical word: decoded by Arm, it is the operation on the low bits of the value

  module _ (operation value width rn rd : ℕ)
      (p : logical_word.Post k (bytes, (base_address, (position, (operation, (value, (width, (rn, (rd, tt)))))))) answer
      (bytes', (base_address, (position, (operation, (value, (width, (rn, (rd, tt))))))))) where
    abbrev said : Said (List ℕ)
    said = word_of operation width rn rd p.0

    pub logical_word_means : refusal_in answer ≡ 0 → Means (word_at answer position l') operation value width rn rd
    logical_word_means z =
        word_means operation value width rn rd (word_at answer position l') p.0 p.1
        (found_one l at answer l' said (word_sane operation width value rn rd p.0 p.1) p.2 (word_alone operation width rn rd p.0) z)

    pub logical_word_refusal : Refusals answer
    logical_word_refusal = refusal l at answer l' said (word_sane operation width value rn rd p.0 p.1) p.2

    pub logical_word_15 : (Aligned at → ⊥) → (answer ≡ 15) × (l' ≡ l)
    logical_word_15 = fifteen l at answer l' said p.2

-- ---- those that write nothing

module _ (k : Lfts 0) (answer : ℕ) where
  module _ (value width : ℕ) (p : logical_fields.Post k (value, (width, tt)) answer (value, (width, tt))) where
    -- fields that the encoder allows, each in its byte
    given : refusal_in answer ≡ 0 → (f : LogicalImm) × Encoded width value (ok f) × Bytes answer f.r f.s f.n f.length
    given z = go p.0 p.1 p.2 (fields_read width value answer p.0 p.1 p.2)
      where
        go : (a : Said LogicalImm) → Encoded width value a → answer ≡ told (spelled a) → Reads answer (spelled a)
            → (f : LogicalImm) × Encoded width value (ok f) × Bytes answer f.r f.s f.n f.length
        go (ok f) e q r = (f, e, fields_apart width value answer f e q)
        go (no n) e q r = absurd (omega (arith, z, (number_fits r.0).0, r.1))

    -- what a host reads from the bytes is the encoder's answer
    pub logical_fields_read : refusal_in answer ≡ 0 → Encoded width value (ok (fields_in answer))
    logical_fields_read z =
        let g = given z in
        let b = g.2 in
        let same : fields_in answer ≡ g.0 = rw (b.first, b.second, b.third, b.fourth) in
        subst⁻¹ (λ (f : LogicalImm). Encoded width value (ok f)) same g.1

    -- so N, S and R decode to the low bits of the value, and the length is Arm's for them
    pub logical_fields_decode : refusal_in answer ≡ 0
        → Decodes width (byte_in 3 answer) (byte_in 2 answer) (byte_in 1 answer) (value % 2 ^ width) × (byte_in 4 answer ≡ esize (byte_in 3 answer) (byte_in 2 answer))
    logical_fields_decode z = let e = logical_fields_read z in (e.1, e.3)

    -- the low 32 bits are the number of before: N * 65536 + S * 256 + R above the low byte
    pub logical_fields_before : refusal_in answer ≡ 0 → answer % 2 ^ 32 ≡ (byte_in 3 answer * 2 ^ 16 + byte_in 2 answer * 2 ^ 8 + byte_in 1 answer) * 2 ^ 8
    logical_fields_before z = let b = (given z).2 in rw (b.first, b.second, b.third) b.three

    pub logical_fields_refusal : Refusals answer
    logical_fields_refusal = known answer (spelled p.0) (fields_read width value answer p.0 p.1 p.2)

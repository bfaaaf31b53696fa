-- Demand 2 at the host's boundary: what stands in the bytes after a call, by the entry's own contract and taken as words, is read back by the
-- reader as what was asked. And a refusal is one of the refusals' numbers. Assumes nothing.
use mathlib.Core.Path.{◌≡◌, refl, ap, ◌∙◌, subst}
use mathlib.Core.Bool.{Bool}
use mathlib.Core.List.{List, [], ◌∷◌}
use mathlib.Core.Option.{Option}
use Prim.Native.Nat.{ℕ, ◌+◌, ◌*◌, ◌^◌, ◌%◌, ◌<◌}
use contract.Lifetimes.{Lfts}
use Rattle.std.proofs.Common.{MutBor}
use lib.IntN.{ℤ, pos}
use Rattle.words.specs.Said.{Said, ok}
use Rattle.words.specs.Place.{place_at, address_of, Aligned}
use Rattle.words.specs.declared.Place.{Place}
use Rattle.words.proofs.Answers.{alone_word}
use Rattle.writers.specs.Put.{put_bytes_at, based_at}
use Rattle.writers.proofs.Writes.{Answer, bytes_before}
use Rattle.forms.specs.Form.{form_said}
use Rattle.displacements.specs.Answer.{disp_said, read_said, offset}
use Rattle.displacements.proofs.Demands.{form_yes, read_back}
use Rattle.displacements.proofs.Answers.{alone}
use Rattle.disp_targets.specs.Target.{page_of, between, target_said, low_of, carried}
use Rattle.disp_targets.proofs.Demands.{arrives, address_fits, zero_address}
use Rattle.disp_targets.proofs.Targets.{low_page}
use Rattle.disp_targets.proofs.Pages.{Paged, paged_at}
use Rattle.host.specs.Number.{refusal_in, value_in, Reads, low_bits, host_to_of, host_put_to, low_in, words_from, word_at, yes_no}
use Rattle.host.proofs.Demands.{target_low, fifteen, fifteen_to, stands_to}
use Rattle.host.proofs.Boundary.{Refusals, known, found_to, refusal_to, found_one, refusal}
use Rattle.host_displacements.proofs.Demands.{displacement_sane, form_read, distance_read}
use Rattle.host_displacements.proofs.vaimalofo_displacement.Reads as displacement
use Rattle.host_displacements.proofs.vaimalofo_displacement_to.Reads as displacement_to
use Rattle.host_displacements.proofs.vaimalofo_has_form.Reads as has_form
use Rattle.host_displacements.proofs.vaimalofo_read_displacement.Reads as read_displacement

-- the test, asked for a word at a format, says yes and refuses nothing
abbrev pub Instruction : (word format : ℕ) → Type 0
Instruction word format = (k : Lfts 0) (answer : ℕ) → has_form.Post k (format, (word, tt)) answer (format, (word, tt)) → (refusal_in answer ≡ 0) × (value_in answer ≡ pos 1)

pub formed : (word format base : ℕ) (distance : ℤ) → disp_said format base distance ≡ ok (word ∷ []) → Instruction word format
formed word format base distance e k answer p =
    subst (λ (a : Said Bool). Reads answer (yes_no a)) (form_yes format base distance word e) (form_read format word answer p)

-- the reader, asked for a word at a format, says the distance and refuses nothing
abbrev pub Read : (word format : ℕ) → ℤ → Type 0
Read word format distance =
    (k : Lfts 0) (answer : ℕ) → read_displacement.Post k (word, (format, tt)) answer (word, (format, tt)) → (refusal_in answer ≡ 0) × (value_in answer ≡ distance)

pub reads_back : (word format base : ℕ) (distance : ℤ) → disp_said format base distance ≡ ok (word ∷ []) → Read word format distance
reads_back word format base distance e k answer p =
    subst (Reads answer) (read_back format base distance word e) (distance_read word format answer p)

module _ (k : Lfts 1) (bytes bytes' : MutBor (List ℕ)) (base_address position answer : ℕ) where
  abbrev at : Place
  at = place_at base_address position

  abbrev l : List ℕ
  l = bytes.now

  abbrev l' : List ℕ
  l' = bytes'.now

  -- ---- displacements: what was written, the reader reads

  module _ (format base : ℕ) (distance : ℤ)
      (p : displacement.Post k (bytes, (base_address, (position, (format, (base, (distance, tt)))))) answer (bytes', (base_address, (position, (format, (base, (distance, tt))))))) where
    pub displacement_read : refusal_in answer ≡ 0 → Read (word_at answer position l') format distance
    displacement_read z =
        reads_back (word_at answer position l') format base distance
        (found_one l at answer l' (disp_said format base distance) (displacement_sane format base distance) p (alone format base distance) z)

    -- and the word is an instruction of the format, as its base
    pub displacement_formed : refusal_in answer ≡ 0 → Instruction (word_at answer position l') format
    displacement_formed z =
        formed (word_at answer position l') format base distance
        (found_one l at answer l' (disp_said format base distance) (displacement_sane format base distance) p (alone format base distance) z)

    pub displacement_refusal : Refusals answer
    displacement_refusal = refusal l at answer l' (disp_said format base distance) (displacement_sane format base distance) p

    pub displacement_15 : (Aligned at → ⊥) → (answer ≡ 15) × (l' ≡ l)
    displacement_15 = fifteen l at answer l' (disp_said format base distance) p

  module _ (format base target : ℕ)
      (p : displacement_to.Post k (bytes, (base_address, (position, (format, (base, (target, tt)))))) answer (bytes', (base_address, (position, (format, (base, (target, tt))))))) where
    abbrev address : ℕ
    address = address_of at

    abbrev apart : ℤ
    apart = between (page_of format target) (page_of format address)

    abbrev low : Option ℕ
    low = low_of format target

    there : refusal_in answer ≡ 0 → target_said format base target address ≡ ok (word_at answer position l' ∷ [])
    there z =
        alone_word (disp_said format base apart) (words_from answer position l') (alone format base apart)
        (found_to l at answer l' (disp_said format base apart) (displacement_sane format base apart) low (target_low format target) p z)

    pub displacement_to_read : refusal_in answer ≡ 0 → Read (word_at answer position l') format apart
    displacement_to_read z = reads_back (word_at answer position l') format base apart (there z)

    pub displacement_to_formed : refusal_in answer ≡ 0 → Instruction (word_at answer position l') format
    displacement_to_formed z = formed (word_at answer position l') format base apart (there z)

    -- and by Arm's reading the instruction arrives at the target, an ADRP at its page
    pub displacement_to_arrives : refusal_in answer ≡ 0 → target < 2 ^ 64
        → (page_of format address + offset format (word_at answer position l')) % 2 ^ 64 ≡ page_of format target
    displacement_to_arrives z ht = arrives format base target address (word_at answer position l') ht (address_fits at) (there z)

    -- the low bits in the answer: the target's at format 4, and 0 elsewhere
    pub displacement_to_low : refusal_in answer ≡ 0 → low_in answer ≡ low_bits low
    displacement_to_low z =
        (stands_to l at answer l' low (disp_said format base apart) (target_low format target) (displacement_sane format base apart) p z).2.bits

    -- with them the page that Arm computes from the ADRP is the target
    pub displacement_to_paged : refusal_in answer ≡ 0 → format ≡ 4 → target < 2 ^ 64 → Paged target address (word_at answer position l') (low_in answer)
    displacement_to_paged z four ht =
        let bits : low_in answer ≡ target % 4096 = displacement_to_low z ∙ ap low_bits (low_page format target four) in
        paged_at format base target address ht (address_fits at) (word_at answer position l') (low_in answer) four bits (there z)

    pub displacement_to_refusal : Refusals answer
    displacement_to_refusal = refusal_to l at answer l' (disp_said format base apart) (displacement_sane format base apart) low (target_low format target) p

    pub displacement_to_15 : (Aligned at → ⊥) → (answer ≡ 15) × (l' ≡ l)
    displacement_to_15 = fifteen_to l at answer l' low (disp_said format base apart) p

    -- "At base 0 no word changes, where the address given to the target entry was four times the position": what was said before of that address
    pub displacement_to_zero : base_address ≡ 0 → 4 * position < 2 ^ 64
        → (answer, l') ≡ host_to_of (place_at 0 position) (carried low (based_at (record { 0 = 0 }) (put_bytes_at l position (target_said format base target (4 * position)))))
    displacement_to_zero z h =
        p
        ∙ ap (λ (b : ℕ). host_put_to l (place_at b position) low (target_said format base target (address_of (place_at b position)))) z
        ∙ ap (λ (y : Answer). host_to_of (place_at 0 position) (carried low y)) (bytes_before l (place_at 0 position) (target_said format base target (address_of (place_at 0 position))) refl)
        ∙ ap (λ (a : ℕ). host_to_of (place_at 0 position) (carried low (based_at (record { 0 = 0 }) (put_bytes_at l position (target_said format base target a))))) (zero_address position h)

-- ---- those that write nothing

module _ (k : Lfts 0) (answer : ℕ) where
  pub has_form_refusal : (format word : ℕ) → has_form.Post k (format, (word, tt)) answer (format, (word, tt)) → Refusals answer
  has_form_refusal format word p = known answer (yes_no (form_said format word)) (form_read format word answer p)

  pub read_displacement_refusal : (word format : ℕ) → read_displacement.Post k (word, (format, tt)) answer (word, (format, tt)) → Refusals answer
  read_displacement_refusal word format p = known answer (read_said word format) (distance_read word format answer p)

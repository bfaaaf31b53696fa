-- Demand 2 at the host's boundary, of a word already written: by the entry's own contract the word in the bytes is the old one with the distance that
-- was asked for, read by the reader and by Arm. And a refusal is one of the refusals' numbers. Assumes nothing.
use mathlib.Core.Path.{◌≡◌, refl, ap, ◌∙◌}
use mathlib.Core.Bool.{Bool, true, false}
use mathlib.Core.List.{List, [], ◌∷◌}
use mathlib.Core.Option.{Option}
use Prim.Native.Nat.{ℕ, ◌+◌, ◌%◌, ◌^◌, ◌<◌}
use borrow.Author.Tests.{ltb-true, ltb-false}
use contract.Lifetimes.{Lfts}
use Rattle.std.proofs.Common.{MutBor}
use lib.Dec.{ltb}
use lib.IntN.{ℤ}
use lib.ListN.{length, get_or}
use Rattle.words.specs.Said.{Said, ok}
use Rattle.words.specs.Place.{place_at, address_of, Aligned}
use Rattle.words.specs.declared.Place.{Place}
use Rattle.words.specs.declared.Refusal.TheVariants.{Unknown, NoRoom}
use Rattle.words.proofs.Answers.{alone_word}
use Rattle.words.proofs.Fields.{part}
use Rattle.writers.specs.Put.{words_in}
use Rattle.displacements.specs.Forms.{form_of, clear_in}
use Rattle.displacements.specs.Answer.{offset}
use Rattle.displacements.proofs.Laws.{Outside}
use Rattle.disp_targets.specs.Target.{page_of, between, low_of}
use Rattle.disp_targets.proofs.Demands.{arrives, address_fits}
use Rattle.disp_targets.proofs.Targets.{low_page}
use Rattle.disp_targets.proofs.Pages.{Paged, paged_at}
use Rattle.retargets.specs.Retarget.{word_at, again_said}
use Rattle.retargets.proofs.Answers.{word_there, word_missing, again_7, again_missing, again_alone}
use Rattle.retargets.proofs.Demands.{the_same, again_kept, sent}
use Rattle.host.specs.Number.{refusal_in, low_bits, low_in}
use Rattle.host.specs.Number as number
use Rattle.host.proofs.Demands.{Sane, target_low, fifteen, fifteen_to, stands_to}
use Rattle.host.proofs.Boundary.{Refusals, found_one, found_to, refusal, refusal_to}
use Rattle.host_displacements.proofs.Demands.{displacement_sane}
use Rattle.host_displacements.proofs.Boundary.{Read, Instruction, reads_back, formed}
use Rattle.host_retargets.proofs.vaimalofo_retarget.Reads as retarget
use Rattle.host_retargets.proofs.vaimalofo_retarget_to.Reads as retarget_to

-- ---- what is said of the word that stands at a position of some words

module _ (ws : List ℕ) (p n : ℕ) (d : ℤ) where
  -- four words at most, or the number of a refusal
  again_sane : Sane (again_said n (word_at ws p) d)
  again_sane = go (ltb 5 n) (ltb p (length ws)) refl refl
    where
      go : (b c : Bool) → ltb 5 n ≡ b → ltb p (length ws) ≡ c → Sane (again_said n (word_at ws p) d)
      go true c e f = rw (again_7 n d (word_at ws p) (ltb-true 5 n e)) (Unknown, refl)
      go false true e f =
          rw (word_there ws p (ltb-true p (length ws) f), the_same n (get_or ws p 0) d (ltb-false 5 n e)) (displacement_sane n (clear_in (form_of n) (get_or ws p 0)) d)
      go false false e f = rw (word_missing ws p (ltb-false p (length ws) f), again_missing n d 8 (ltb-false 5 n e)) (NoRoom, refl)

module _ (k : Lfts 1) (bytes bytes' : MutBor (List ℕ)) (base_address position answer : ℕ) where
  abbrev at : Place
  at = place_at base_address position

  abbrev ws : List ℕ
  ws = words_in bytes.now

  -- the word that stood there, and the one that stands there
  abbrev old : ℕ
  old = get_or ws position 0

  abbrev new : ℕ
  new = number.word_at answer position bytes'.now

  module _ (format : ℕ) (distance : ℤ)
      (p : retarget.Post k (bytes, (base_address, (position, (format, (distance, tt))))) answer (bytes', (base_address, (position, (format, (distance, tt)))))) where
    abbrev said : Said (List ℕ)
    said = again_said format (word_at ws position) distance

    there : refusal_in answer ≡ 0 → said ≡ ok (new ∷ [])
    there = found_one bytes.now at answer bytes'.now said (again_sane ws position format distance) p (again_alone format (word_at ws position) distance)

    -- what was written, the reader reads
    pub retarget_read : refusal_in answer ≡ 0 → Read new format distance
    retarget_read z = reads_back new format (clear_in (form_of format) old) distance (sent ws position format distance new (there z)).base

    -- the word is an instruction of the format, and outside the field it is the old one
    pub retarget_formed : refusal_in answer ≡ 0 → Instruction new format
    retarget_formed z = formed new format (clear_in (form_of format) old) distance (sent ws position format distance new (there z)).base

    pub retarget_kept : refusal_in answer ≡ 0 → (q l : ℕ) → Outside (form_of format) q l → part q l new ≡ part q l old
    retarget_kept z = let t = sent ws position format distance new (there z) in again_kept format old distance t.at new t.word

    pub retarget_refusal : Refusals answer
    retarget_refusal = refusal bytes.now at answer bytes'.now said (again_sane ws position format distance) p

    pub retarget_15 : (Aligned at → ⊥) → (answer ≡ 15) × (bytes'.now ≡ bytes.now)
    retarget_15 = fifteen bytes.now at answer bytes'.now said p

  module _ (format target : ℕ)
      (p : retarget_to.Post k (bytes, (base_address, (position, (format, (target, tt))))) answer (bytes', (base_address, (position, (format, (target, tt)))))) where
    abbrev address : ℕ
    address = address_of at

    abbrev apart : ℤ
    apart = between (page_of format target) (page_of format address)

    abbrev said_to : Said (List ℕ)
    said_to = again_said format (word_at ws position) apart

    abbrev low : Option ℕ
    low = low_of format target

    there_to : refusal_in answer ≡ 0 → said_to ≡ ok (new ∷ [])
    there_to z =
        alone_word said_to _ (again_alone format (word_at ws position) apart)
        (found_to bytes.now at answer bytes'.now said_to (again_sane ws position format apart) low (target_low format target) p z)

    pub retarget_to_read : refusal_in answer ≡ 0 → Read new format apart
    retarget_to_read z = reads_back new format (clear_in (form_of format) old) apart (sent ws position format apart new (there_to z)).base

    pub retarget_to_formed : refusal_in answer ≡ 0 → Instruction new format
    retarget_to_formed z = formed new format (clear_in (form_of format) old) apart (sent ws position format apart new (there_to z)).base

    pub retarget_to_kept : refusal_in answer ≡ 0 → (q l : ℕ) → Outside (form_of format) q l → part q l new ≡ part q l old
    retarget_to_kept z = let t = sent ws position format apart new (there_to z) in again_kept format old apart t.at new t.word

    -- by Arm's reading the instruction arrives at the target, an ADRP at its page
    pub retarget_to_arrives : refusal_in answer ≡ 0 → target < 2 ^ 64 → (page_of format address + offset format new) % 2 ^ 64 ≡ page_of format target
    retarget_to_arrives z ht =
        arrives format (clear_in (form_of format) old) target address new ht (address_fits at) (sent ws position format apart new (there_to z)).base

    -- which with the low bits in the answer is the target
    pub retarget_to_paged : refusal_in answer ≡ 0 → format ≡ 4 → target < 2 ^ 64 → Paged target address new (low_in answer)
    retarget_to_paged z four ht =
        let bits : low_in answer ≡ target % 4096 =
        (stands_to bytes.now at answer bytes'.now low said_to (target_low format target) (again_sane ws position format apart) p z).2.bits
        ∙ ap low_bits (low_page format target four) in
        paged_at format (clear_in (form_of format) old) target address ht (address_fits at) new (low_in answer) four bits (sent ws position format apart new (there_to z)).base

    pub retarget_to_refusal : Refusals answer
    retarget_to_refusal = refusal_to bytes.now at answer bytes'.now said_to (again_sane ws position format apart) low (target_low format target) p

    pub retarget_to_15 : (Aligned at → ⊥) → (answer ≡ 15) × (bytes'.now ≡ bytes.now)
    retarget_to_15 = fifteen_to bytes.now at answer bytes'.now low said_to p

-- Each public entry's contract allows one answer, and one run after it. Assumes nothing.
use Rattle.std.proofs.Common.{◌≡◌, ℕ, List, refl, ap}
use Rattle.std.specs.Prelude.{Option as Carries, Some, None, Result}
use mathlib.Core.Option.{Option, some, none}
use Rattle.words.specs.Said.{Said}
use Rattle.words.specs.declared.Place.{Place}
use Rattle.words.specs.declared.Refusal.{Refusal}
use Rattle.words.specs.declared.Words.{Words}
use Rattle.words.proofs.Answers.{said_as_all}
use Rattle.words.proofs.Contracts.{OneAnswer, OneWrite, one_answer, one_pair}
use Rattle.disp_targets.specs.declared.Low12.{Low12}
use Rattle.disp_targets.specs.declared.TargetWord.{TargetWord}
use Rattle.disp_targets.specs.declared.TargetWritten.{TargetWritten}
use Rattle.disp_targets.specs.Target.{low_said, word_said, written_said}
use Rattle.disp_targets.proofs.disp_target_word.Reads as disp_target_word
use Rattle.disp_targets.proofs.put_target.Reads as put_target
use Rattle.disp_targets.proofs.emit_disp_target.Reads as emit_disp_target

-- what a target's answer says is all of it, by value and written
abbrev low_in : Option ℕ → Carries Low12
low_in (some l) = Some (record { 0 = l })
low_in none = None

low_back : (l : Carries Low12) → low_in (low_said l) ≡ l
low_back (Some l) = refl
low_back None = refl

abbrev word_in : Words × Option ℕ → TargetWord
word_in w = record { words = w.0; low = low_in w.1 }

pub word_all : (r s : Result TargetWord Refusal) → word_said r ≡ word_said s → r ≡ s
word_all = said_as_all (λ (w : TargetWord). (w.words, low_said w.low)) word_in (λ w. ap (λ (l : Carries Low12). record { words = w.words; low = l }) (low_back w.low))

abbrev written_in : Place × Option ℕ → TargetWritten
written_in w = record { past = w.0; low = low_in w.1 }

pub written_all : (r s : Result TargetWritten Refusal) → written_said r ≡ written_said s → r ≡ s
written_all = said_as_all (λ (w : TargetWritten). (w.past, low_said w.low)) written_in (λ w. ap (λ (l : Carries Low12). record { past = w.past; low = l }) (low_back w.low))

pub disp_target_word_determined : OneAnswer disp_target_word.Post
disp_target_word_determined k a r s x y p q = word_all r s (one_answer p q)

-- a writer's answer, and the run after it
one_written : (r s : Result TargetWritten Refusal) {l m : List ℕ} {z : Said (Place × Option ℕ) × List ℕ} → (written_said r, l) ≡ z → (written_said s, m) ≡ z → (r ≡ s) × (l ≡ m)
one_written r s p q = let e = one_pair p q in (written_all r s e.0, e.1)

pub put_target_determined : OneWrite put_target.Post (λ k x. x.0.now)
put_target_determined k a r s x y p q = one_written r s p q

pub emit_disp_target_determined : OneWrite emit_disp_target.Post (λ k x. x.0.now)
emit_disp_target_determined k a r s x y p q = one_written r s p q

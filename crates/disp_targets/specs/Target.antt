-- What the entries say from a target and the address of the instruction. Assumes nothing.
use Rattle.std.specs.Prelude.{ℕ, ◌+◌, ◌-◌, ◌%◌, ◌^◌, cond, List, ℤ, ◌==◌, Option as Carries, Some, None, Result}
use Rattle.std.proofs.Math.Option.{Option, some, none}
use Rattle.std.specs.Int.{w64}
use Rattle.std.proofs.Common.{to_z}
use Rattle.words.specs.Said.{Said, ok, no}
use Rattle.words.specs.Answer.{said_as}
use Rattle.words.specs.Listed.{list_of}
use Rattle.words.specs.declared.Place.{Place}
use Rattle.words.specs.declared.Refusal.{Refusal}
use Rattle.words.specs.declared.Words.{Words}
use Rattle.displacements.specs.Answer.{disp_said}
use Rattle.disp_targets.specs.declared.Low12.{Low12}
use Rattle.disp_targets.specs.declared.TargetWord.{TargetWord}
use Rattle.disp_targets.specs.declared.TargetWritten.{TargetWritten}

-- "For ADRP the address first loses its low 12 bits", and the target's "are cleared before the distance is taken, as the address's are"
abbrev pub page_of : ℕ → ℕ → ℕ
page_of n a = cond (n == 4) (a - a % 4096) a

-- "the distance is target minus address, taken modulo 2^64 and read as signed"
abbrev pub between : ℕ → ℕ → ℤ
between t a = to_z w64 ((t + (2 ^ 64 - a)) % 2 ^ 64)

abbrev pub target_said : ℕ → ℕ → ℕ → ℕ → Said (List ℕ)
target_said n b t a = disp_said n b (between (page_of n t) (page_of n a))

-- "The target entry's format 4 answer also carries the low 12 bits of the target"; no other format's carries any
abbrev pub low_of : ℕ → ℕ → Option ℕ
low_of n t = cond (n == 4) (some (t % 4096)) none

-- low bits beside what was said; a refusal carries nothing but its number
abbrev pub carrying : {A : Type 0} → Option ℕ → Said A → Said (A × Option ℕ)
carrying l (ok x) = ok (x, l)
carrying l (no n) = no n

-- the same of what a writer says, and the run as it then is
abbrev pub carried : {A : Type 0} → Option ℕ → Said A × List ℕ → Said (A × Option ℕ) × List ℕ
carried l (x, ws) = (carrying l x, ws)

-- low bits in an answer, or none
abbrev pub low_said : Carries Low12 → Option ℕ
low_said (Some l) = some l.0
low_said None = none

-- the target entry's answer by value says words, and at format 4 low bits
abbrev pub word_said : Result TargetWord Refusal → Said (Words × Option ℕ)
word_said = said_as (λ w. (w.words, low_said w.low))

-- and written, a place
abbrev pub written_said : Result TargetWritten Refusal → Said (Place × Option ℕ)
written_said = said_as (λ w. (w.past, low_said w.low))

-- a target's word by value, put by a writer into a run: what the writer says of it with the low bits beside it, or what it says of the refusal
abbrev pub put_to : (Said (List ℕ) → Said Place × List ℕ) → Said (Words × Option ℕ) → Said (Place × Option ℕ) × List ℕ
put_to put (ok (f, l)) = carried l (put (ok (list_of f)))
put_to put (no n) = carried none (put (no n))

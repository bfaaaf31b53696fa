-- The operations by their numbers. Assumes nothing.
use Rattle.std.specs.Prelude.{◌≡◌, ℕ, ◌<◌, Result, MatchResult}
use Rattle.words.specs.Answer.{number_of}
use Rattle.words.specs.declared.Refusal.{Refusal}
use Rattle.logical_words.specs.declared.Operation.{Operation}
use Rattle.logical_words.specs.declared.Operation.TheVariants.{And, Orr, Eor, Ands}

-- "operation 0 AND, 1 ORR, 2 EOR, 3 ANDS"
abbrev pub operation_number : Operation → ℕ
operation_number And = 0
operation_number Orr = 1
operation_number Eor = 2
operation_number Ands = 3

-- the operation of a number; refusal 7 where there is none
abbrev pub Operations : ℕ → Result Operation Refusal → Type 0
Operations n x = MatchResult x (λ o. operation_number o ≡ n) (λ r. (number_of r ≡ 7) × (3 < n))

-- The displacement formats by their numbers. Assumes nothing.
use Rattle.std.specs.Prelude.{◌≡◌, ℕ, ◌<◌, Result, MatchResult}
use Rattle.words.specs.declared.Refusal.{Refusal}
use Rattle.words.specs.declared.Refusal.TheVariants.{Unknown}
use Rattle.forms.specs.declared.Format.{Format}
use Rattle.forms.specs.declared.Format.TheVariants.{Branch26, Branch19, Branch14, Adr, Adrp, Ldr}

-- document 01's number of a format
abbrev pub format_number : Format → ℕ
format_number Branch26 = 0
format_number Branch19 = 1
format_number Branch14 = 2
format_number Adr = 3
format_number Adrp = 4
format_number Ldr = 5

-- the format that a number has, or refusal 7 where it is past them all
abbrev pub Numbers : ℕ → Result Format Refusal → Type 0
Numbers n x = MatchResult x (λ f. format_number f ≡ n) (λ r. (r ≡ Unknown) × (5 < n))

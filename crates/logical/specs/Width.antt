-- The widths of a register. Assumes nothing.
use Rattle.std.specs.Prelude.{◌≡◌, ℕ, Result, MatchResult}
use Rattle.arm.specs.BitMasks.{IsWidth}
use Rattle.words.specs.Answer.{number_of}
use Rattle.words.specs.declared.Refusal.{Refusal}
use Rattle.logical.specs.declared.Width.{Width}
use Rattle.logical.specs.declared.Width.TheVariants.{W32, W64}

abbrev pub bits_of : Width → ℕ
bits_of W32 = 32
bits_of W64 = 64

-- the width of so many bits; refusal 1 where there is none
abbrev pub Widths : ℕ → Result Width Refusal → Type 0
Widths n x = MatchResult x (λ w. bits_of w ≡ n) (λ r. (number_of r ≡ 1) × (IsWidth n → ⊥))

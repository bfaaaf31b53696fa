-- The bits of a register's size, and the size of a number or refusal 1. Assumes nothing.
use Rattle.std.specs.Prelude.{◌≡◌, ℕ, Result, MatchResult}
use Rattle.words.specs.declared.Refusal.{Refusal}
use Rattle.words.specs.declared.Refusal.TheVariants.{Width}
use Rattle.patchable_moves.specs.declared.RegisterSize.{RegisterSize}
use Rattle.patchable_moves.specs.declared.RegisterSize.TheVariants.{W32, W64}

abbrev pub bits_of : RegisterSize → ℕ
bits_of W32 = 32
bits_of W64 = 64

abbrev pub Sizes : ℕ → Result RegisterSize Refusal → Type 0
Sizes n x = MatchResult x (λ s. bits_of s ≡ n) (λ e. (e ≡ Width) × (n ≡ 32 → ⊥) × (n ≡ 64 → ⊥))

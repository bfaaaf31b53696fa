-- The register of a number, or refusal 2. Assumes nothing.
use Rattle.std.specs.Prelude.{◌≡◌, ℕ, ◌<◌, Result, MatchResult}
use Rattle.words.specs.declared.Refusal.{Refusal}
use Rattle.words.specs.declared.Refusal.TheVariants.{Register as NoRegister}
use Rattle.moves.specs.declared.register.Register.{Register}

abbrev pub RegisterOf : ℕ → Result Register Refusal → Type 0
RegisterOf n x = MatchResult x (λ r. r.number ≡ n) (λ e. (e ≡ NoRegister) × (30 < n))

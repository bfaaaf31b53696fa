-- What the entries for small immediates say: the 8-bit value that Arm expands to the value asked for, or a refusal. Assumes nothing.
use Rattle.std.specs.Prelude.{◌≡◌, Bool, true, false, ◌⊎◌, ℕ, ◌%◌, ◌^◌, ◌<◌}
use Rattle.arm.specs.Immediates.{VFPExpandImm, ByteMask}
use Rattle.words.specs.Said.{Said, ok, no}

-- an 8-bit value that `expand` takes to x; 3 exactly where there is none
unfoldable pub Spells : (ℕ → ℕ) → ℕ → Said ℕ → Type 0
Spells expand x (ok b) = (b < 256) × (expand b ≡ x)
Spells expand x (no n) = (n ≡ 3) × ((b : ℕ) → b < 256 → expand b ≡ x → ⊥)

-- the widths that VFPExpandImm has
abbrev pub IsFloatWidth : ℕ → Type 0
IsFloatWidth N = (N ≡ 16) ⊎ (N ≡ 32) ⊎ (N ≡ 64)

-- "8-bit floats at 16, 32, 64 (order 1, 3); bits above 16 or 32 are ignored"
unfoldable pub FloatSays : ℕ → ℕ → Said ℕ → Type 0
FloatSays N v a = (IsFloatWidth N × Spells (VFPExpandImm N) (v % 2 ^ N) a) ⊎ ((IsFloatWidth N → ⊥) × (a ≡ no 1))

-- "each byte 00 or FF, else 3"
abbrev pub MaskSays : ℕ → Said ℕ → Type 0
MaskSays v a = Spells ByteMask v a

-- a test: true exactly where some 8-bit value expands to x
unfoldable pub Tests : (ℕ → ℕ) → ℕ → Bool → Type 0
Tests expand x true = (b : ℕ) × (b < 256) × (expand b ≡ x)
Tests expand x false = (b : ℕ) → b < 256 → expand b ≡ x → ⊥

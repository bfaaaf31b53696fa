-- What the entries on values say, for the one number of crates/host. Assumes nothing.
use Rattle.std.specs.Prelude.{◌≡◌, Bool, ℕ, ◌%◌, ◌^◌, ℤ, pos}
use Rattle.arm.specs.Immediates.{VFPExpandImm}
use Rattle.words.specs.Said.{Said, ok, no}
use Rattle.immediates.specs.Says.{IsFloatWidth, Tests}
use Rattle.host.specs.Number.{told}

-- a natural number as a value
abbrev pub natural : Said ℕ → Said ℤ
natural (ok n) = ok (pos n)
natural (no n) = no n

-- whether some 8-bit value expands to the low N bits of v, or 1 at another width; bits above the width are ignored
abbrev pub TestSays : (N v : ℕ) → Said Bool → Type 0
TestSays N v (ok b) = IsFloatWidth N × Tests (VFPExpandImm N) (v % 2 ^ N) b
TestSays N v (no n) = (IsFloatWidth N → ⊥) × (n ≡ 1)

-- the number of what is said, read as a value (each promise allows one answer)
abbrev pub Tells : {A : Type 0} → (Said A → Type 0) → (Said A → Said ℤ) → ℕ → Type 0
Tells {A} Says value r = (a : Said A) × Says a × (r ≡ told (value a))

-- Document 01's numbers of the kinds of registers (0 other, 1 Gp32, 2 Gp64) and of the elements (5 to 7 others). Assumes nothing.
use Rattle.std.specs.Prelude.{◌≡◌, Bool, ◌&&◌, ℕ, ◌<◌, leb, Result, MatchResult}
use Rattle.words.specs.declared.Refusal.{Refusal}
use Rattle.words.specs.declared.Refusal.TheVariants.{Unknown}
use Rattle.simd.specs.declared.Kind.{Kind}
use Rattle.simd.specs.declared.Kind.TheVariants as kind
use Rattle.simd.specs.declared.Element.{Element}
use Rattle.simd.specs.declared.Element.TheVariants as element

-- kinds
abbrev pub Vec8 : ℕ
Vec8 = 3

abbrev pub Vec16 : ℕ
Vec16 = 4

abbrev pub Vec32 : ℕ
Vec32 = 5

abbrev pub Vec64 : ℕ
Vec64 = 6

abbrev pub Vec128 : ℕ
Vec128 = 7

-- elements
abbrev pub none : ℕ
none = 0

abbrev pub B : ℕ
B = 1

abbrev pub H : ℕ
H = 2

abbrev pub S : ℕ
S = 3

abbrev pub D : ℕ
D = 4

-- from the first number to the last
abbrev pub within : ℕ → ℕ → ℕ → Bool
within first last x = leb first x && leb x last

-- the number of each
abbrev pub kind_number : Kind → ℕ
kind_number kind.Other = 0
kind_number kind.Gp32 = 1
kind_number kind.Gp64 = 2
kind_number kind.Vec8 = 3
kind_number kind.Vec16 = 4
kind_number kind.Vec32 = 5
kind_number kind.Vec64 = 6
kind_number kind.Vec128 = 7

abbrev pub element_number : Element → ℕ
element_number element.None = 0
element_number element.B = 1
element_number element.H = 2
element_number element.S = 3
element_number element.D = 4
element_number element.Other5 = 5
element_number element.Other6 = 6
element_number element.Other7 = 7

-- what has a number, up to 7; above it, the refusal 7
abbrev pub KindOf : ℕ → Result Kind Refusal → Type 0
KindOf n x = MatchResult x (λ k. kind_number k ≡ n) (λ r. (r ≡ Unknown) × (7 < n))

abbrev pub ElementOf : ℕ → Result Element Refusal → Type 0
ElementOf n x = MatchResult x (λ e. element_number e ≡ n) (λ r. (r ≡ Unknown) × (7 < n))

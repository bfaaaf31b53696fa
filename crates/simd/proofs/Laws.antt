-- The two sides of a test; numbers from a first to a last one; kinds and elements by their numbers. Assumes nothing.
use mathlib.Core.Path.{◌≡◌, refl, sym, ap, ◌∙◌}
use mathlib.Core.Bool.{Bool, true, false, cond, ◌&&◌}
use mathlib.Core.List.{[], ◌∷◌}
use Prim.Native.Nat.{ℕ, ◌≤◌, ◌<◌}
use borrow.Author.Tests.{le-leb, leb-true}
use native.Mathlib.Omega.{arith}
use lib.Dec.{leb}
use Rattle.std.proofs.Common.{lit≤}
use Rattle.std.specs.Prelude.{Result, Ok, Err, slice_index_or}
use Rattle.words.specs.declared.Refusal.{Refusal}
use Rattle.words.proofs.Answers.{all_said}
use Rattle.simd.specs.declared.Kind.{Kind}
use Rattle.simd.specs.declared.Kind.TheVariants as kind
use Rattle.simd.specs.declared.Element.{Element}
use Rattle.simd.specs.declared.Element.TheVariants as element
use Rattle.simd.specs.Kinds.{within, kind_number, element_number, KindOf, ElementOf}

-- what holds of both sides of a test, each where the test comes out so
module _ {A : Type 0} (P : A → Type 0) where
  pub either : (t : Bool) (x y : A) → (t ≡ true → P x) → (t ≡ false → P y) → P (cond t x y)
  either true x y f g = f refl
  either false x y f g = g refl

module _ (first last x : ℕ) where
  pub inside : first ≤ x → x ≤ last → within first last x ≡ true
  inside h k = simp (le-leb first x h, le-leb x last k)

  pub outside : (first ≤ x → x ≤ last → ⊥) → within first last x ≡ false
  outside h = by (leb first x) (leb x last) refl refl
    where
      by : (a b : Bool) → leb first x ≡ a → leb x last ≡ b → (a && b) ≡ false
      by true true p q = absurd (h (leb-true first x p) (leb-true x last q))
      by true false p q = refl
      by false b p q = refl

pub second : (a b : Bool) → (a && b) ≡ true → b ≡ true
second true b e = e
second false b e = let z : ◌≡◌ {A = ℕ} 0 1 = cc in absurd (omega arith)

-- a number from first to last is at most the last
pub last : (lo hi x : ℕ) → within lo hi x ≡ true → x ≤ hi
last lo hi x w = leb-true x hi (second (leb lo x) (leb x hi) w)

-- ---- kinds and elements have the numbers below 8, and a number is one's

pub kind_below : (x : Kind) → kind_number x < 8
kind_below kind.Other = lit≤ tt
kind_below kind.Gp32 = lit≤ tt
kind_below kind.Gp64 = lit≤ tt
kind_below kind.Vec8 = lit≤ tt
kind_below kind.Vec16 = lit≤ tt
kind_below kind.Vec32 = lit≤ tt
kind_below kind.Vec64 = lit≤ tt
kind_below kind.Vec128 = lit≤ tt

abbrev kind_of : ℕ → Kind
kind_of n = slice_index_or (kind.Other ∷ kind.Gp32 ∷ kind.Gp64 ∷ kind.Vec8 ∷ kind.Vec16 ∷ kind.Vec32 ∷ kind.Vec64 ∷ kind.Vec128 ∷ []) n kind.Other

kind_back : (x : Kind) → kind_of (kind_number x) ≡ x
kind_back kind.Other = refl
kind_back kind.Gp32 = refl
kind_back kind.Gp64 = refl
kind_back kind.Vec8 = refl
kind_back kind.Vec16 = refl
kind_back kind.Vec32 = refl
kind_back kind.Vec64 = refl
kind_back kind.Vec128 = refl

-- so a number's conversion gives one thing
pub kind_one : (n : ℕ) (x y : Result Kind Refusal) → KindOf n x → KindOf n y → x ≡ y
kind_one n (Ok a) (Ok b) p q = ap Ok (all_said kind_number kind_of kind_back a b (p ∙ sym q))
kind_one n (Ok a) (Err r) p q = let h = kind_below a in absurd (omega arith)
kind_one n (Err r) (Ok b) p q = let h = kind_below b in absurd (omega arith)
kind_one n (Err r) (Err s) p q = ap Err (p.0 ∙ sym q.0)

pub element_below : (x : Element) → element_number x < 8
element_below element.None = lit≤ tt
element_below element.B = lit≤ tt
element_below element.H = lit≤ tt
element_below element.S = lit≤ tt
element_below element.D = lit≤ tt
element_below element.Other5 = lit≤ tt
element_below element.Other6 = lit≤ tt
element_below element.Other7 = lit≤ tt

abbrev element_of : ℕ → Element
element_of n = slice_index_or (element.None ∷ element.B ∷ element.H ∷ element.S ∷ element.D ∷ element.Other5 ∷ element.Other6 ∷ element.Other7 ∷ []) n element.None

element_back : (x : Element) → element_of (element_number x) ≡ x
element_back element.None = refl
element_back element.B = refl
element_back element.H = refl
element_back element.S = refl
element_back element.D = refl
element_back element.Other5 = refl
element_back element.Other6 = refl
element_back element.Other7 = refl

-- so a number's conversion gives one thing
pub element_one : (n : ℕ) (x y : Result Element Refusal) → ElementOf n x → ElementOf n y → x ≡ y
element_one n (Ok a) (Ok b) p q = ap Ok (all_said element_number element_of element_back a b (p ∙ sym q))
element_one n (Ok a) (Err r) p q = let h = element_below a in absurd (omega arith)
element_one n (Err r) (Ok b) p q = let h = element_below b in absurd (omega arith)
element_one n (Err r) (Err s) p q = ap Err (p.0 ∙ sym q.0)

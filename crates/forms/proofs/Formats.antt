-- The six formats, one by one, and their numbers. Assumes nothing.
use Rattle.std.proofs.Common.{◌≡◌, ℕ, zero, suc, ◌<◌, sym, refl, ap, ◌∙◌, arith, lit≤}
use Rattle.std.specs.Prelude.{Result, Ok, Err}
use Rattle.words.specs.declared.Refusal.{Refusal}
use Rattle.words.proofs.Answers.{all_said}
use Rattle.forms.specs.declared.Format.{Format}
use Rattle.forms.specs.declared.Format.TheVariants.{Branch26, Branch19, Branch14, Adr, Adrp, Ldr}
use Rattle.forms.specs.Format.{format_number, Numbers}

-- a fact of each of the six is a fact of all
pub each : (P : ℕ → Type 0) → P 0 → P 1 → P 2 → P 3 → P 4 → P 5 → (n : ℕ) → n < 6 → P n
each P a b c d e f zero h = a
each P a b c d e f (suc zero) h = b
each P a b c d e f (suc (suc zero)) h = c
each P a b c d e f (suc (suc (suc zero))) h = d
each P a b c d e f (suc (suc (suc (suc zero)))) h = e
each P a b c d e f (suc (suc (suc (suc (suc zero))))) h = f
each P a b c d e f (suc (suc (suc (suc (suc (suc n)))))) h = absurd (omega arith)

-- a format's number is below 6
pub number_below : (f : Format) → format_number f < 6
number_below Branch26 = lit≤ tt
number_below Branch19 = lit≤ tt
number_below Branch14 = lit≤ tt
number_below Adr = lit≤ tt
number_below Adrp = lit≤ tt
number_below Ldr = lit≤ tt

-- and no other format's
abbrev format_of : ℕ → Format
format_of zero = Branch26
format_of (suc zero) = Branch19
format_of (suc (suc zero)) = Branch14
format_of (suc (suc (suc zero))) = Adr
format_of (suc (suc (suc (suc zero)))) = Adrp
format_of (suc (suc (suc (suc (suc n))))) = Ldr

format_back : (f : Format) → format_of (format_number f) ≡ f
format_back Branch26 = refl
format_back Branch19 = refl
format_back Branch14 = refl
format_back Adr = refl
format_back Adrp = refl
format_back Ldr = refl

pub format_all : (f g : Format) → format_number f ≡ format_number g → f ≡ g
format_all = all_said format_number format_of format_back

-- the conversion of a number gives one thing
pub numbers_one : (n : ℕ) (x y : Result Format Refusal) → Numbers n x → Numbers n y → x ≡ y
numbers_one n (Ok f) (Ok g) p q = ap Ok (format_all f g (p ∙ sym q))
numbers_one n (Ok f) (Err r) p q = let h = number_below f in absurd (omega (arith, p, q.1))
numbers_one n (Err r) (Ok f) p q = let h = number_below f in absurd (omega (arith, q, p.1))
numbers_one n (Err r) (Err s) p q = ap Err (p.0 ∙ sym q.0)

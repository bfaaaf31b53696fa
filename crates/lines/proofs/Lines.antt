-- The cases of `line_at`, and how long a line is. Assumes nothing.
use mathlib.Core.Path.{◌≡◌, refl, sym, ap, ◌∙◌}
use mathlib.Core.List.{List, [], ◌∷◌, ◌++◌, append_assoc}
use Prim.Native.Nat.{ℕ, ◌+◌, ◌*◌, ◌≤◌, ◌<◌}
use native.Mathlib.Omega.{arith}
use borrow.Author.Tests.{le-leb, lt-leb}
use lib.ListN.{length, length-append, length-take}
use lib.Seq.{sets}
use Rattle.words.specs.Listed.{list_of}
use Rattle.words.specs.declared.Words as w
use Rattle.words.specs.Answer.{number_of}
use Rattle.lines.specs.Item.{Item, items_of}
use Rattle.lines.specs.Text.{hex8, decimal, spaced, text_of, texts_of, line_at}
use Rattle.lines.specs.declared.Answer.{Answer}
use Rattle.lines.specs.declared.Answer.TheVariants.{Nothing, Words, Numbers, No, BadMark, Cut}
use Rattle.lines.proofs.Digits.{short_all}

module _ (o : List ℕ) (at : ℕ) (is : List Item) where
  pub line_fits : at + 96 ≤ length o → line_at o at is ≡ (at + length (texts_of is), sets o at (texts_of is))
  unfolding line_at
  line_fits h = simp (le-leb (at + 96) (length o) h)

  pub line_full : length o < at + 96 → line_at o at is ≡ (at, o)
  unfolding line_at
  line_full h = simp (lt-leb (at + 96) (length o) h)

hex_length : (ns : List ℕ) → length (spaced hex8 ns) ≡ length ns * 9
hex_length [] = refl
hex_length (n ∷ ns) = simp length-append (omega (arith, hex_length ns))

decimal_length : (ns : List ℕ) → length (spaced decimal ns) ≤ length ns * 21
decimal_length [] = omega arith
decimal_length (n ∷ ns) = simp length-append (omega (arith, short_all n, decimal_length ns))

at_most_four : (f : w.Words) → length (list_of f) ≤ 4
at_most_four f = simp length-take (omega arith)

-- no line is longer than the room that is asked for
pub any_line : (a : Answer) → length (texts_of (items_of a)) ≤ 96
any_line Nothing = omega arith
any_line (Words f) = simp length-append (omega (arith, hex_length (list_of f), at_most_four f))
any_line (Numbers f) = simp length-append (omega (arith, decimal_length (list_of f), at_most_four f))
any_line (No r) = simp length-append (omega (arith, short_all (number_of r)))
any_line (BadMark o) = simp length-append (omega (arith, short_all o))
any_line (Cut o) = simp length-append (omega (arith, short_all o))

pub texts_append : (a b : List Item) → texts_of (a ++ b) ≡ texts_of a ++ texts_of b
texts_append [] b = refl
texts_append (i ∷ a) b = ap (λ (t : List ℕ). text_of i ++ t) (texts_append a b) ∙ sym (append_assoc (text_of i) (texts_of a) (texts_of b))

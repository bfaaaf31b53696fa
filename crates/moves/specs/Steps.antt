-- What the inner functions give: cited by their contracts alone. Assumes nothing.
use Rattle.std.specs.Prelude.{◌≡◌, cond, [], ◌∷◌, ℕ, ◌+◌, ◌*◌, ◌/◌, ◌%◌, ◌^◌, ◌≤◌, ◌<◌, eqb, leb}
use Rattle.std.specs.Int.Bits.{bit_xor}
use Rattle.words.specs.Listed.{words_of}
use Rattle.words.specs.declared.Words.{Words}
use Rattle.halfwords.specs.Halfwords.{count}
use Rattle.moves.specs.Moves.{movz, movn}

-- what the first word fills the register with, and its base
unfoldable pub filler : ℕ → ℕ
filler v = cond (leb (count 0xFFFF v) (count 0 v)) 0 0xFFFF

abbrev pub first_base : ℕ → ℕ
first_base f = cond (eqb f 0) movz movn

pub record Filled (v r : ℕ) : Type 0 where
  pub is : r ≡ filler v
  pub small : r < 2 ^ 16

pub record Based (f r : ℕ) : Type 0 where
  pub is : r ≡ first_base f
  pub small : r ≤ movz

-- a MOVK as a first word: a MOVZ of the same halfword, or a MOVN of it inverted
abbrev pub first_word : ℕ → ℕ → ℕ
first_word f w = first_base f + w / 2 ^ 21 % 4 * 2 ^ 21 + bit_xor (w / 2 ^ 5 % 2 ^ 16) f * 2 ^ 5 + w % 2 ^ 5

-- the words with the first one replaced by w; z alone where there are none
unfoldable pub lead : ℕ → ℕ → Words → Words
lead z w q = cond (eqb q.count 0) (words_of (z ∷ [])) (record { count = q.count; a = w; b = q.b; c = q.c; d = q.d })

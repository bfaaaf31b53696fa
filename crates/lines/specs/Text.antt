-- A line's bytes, and what writing a line leaves. Assumes nothing.
use Rattle.std.specs.Prelude.{cond, List, [], ◌∷◌, ◌++◌, ℕ, zero, suc, ◌+◌, ◌/◌, ◌%◌, ltb, leb, length}
use Rattle.std.proofs.lemmas.List.Edits.{sets}
use Rattle.lines.specs.Item.{Item, words, numbers, no, bad_mark, cut_at}

-- 0 to 9, then a to f
abbrev pub digit : ℕ → ℕ
digit d = cond (ltb d 10) (48 + d) (87 + d)

-- the low four digits
abbrev pub hex4 : ℕ → List ℕ
hex4 w = digit (w / 4096 % 16) ∷ digit (w / 256 % 16) ∷ digit (w / 16 % 16) ∷ digit (w % 16) ∷ []

-- "words in 8 lower-case hex digits"
abbrev pub hex8 : ℕ → List ℕ
hex8 w = hex4 (w / 65536) ++ hex4 w

-- no zeros in front; at most k digits
abbrev pub decimal_in : ℕ → ℕ → List ℕ
decimal_in zero n = []
decimal_in (suc k) n = cond (ltb n 10) ((48 + n) ∷ []) (decimal_in k (n / 10) ++ ((48 + n % 10) ∷ []))

-- a number below 2 ^ 64 has at most 20
unfoldable pub decimal : ℕ → List ℕ
decimal n = decimal_in 20 n

-- "One space parts items": each behind one space
abbrev pub spaced : (ℕ → List ℕ) → List ℕ → List ℕ
spaced f [] = []
spaced f (n ∷ ns) = (32 ∷ f n) ++ spaced f ns

-- `ok`, `no`, `bad mark at`, `cut at`, and a line's end
abbrev pub ok_text : List ℕ
ok_text = 111 ∷ 107 ∷ []

abbrev pub no_text : List ℕ
no_text = 110 ∷ 111 ∷ []

abbrev pub bad_text : List ℕ
bad_text = 98 ∷ 97 ∷ 100 ∷ 32 ∷ 109 ∷ 97 ∷ 114 ∷ 107 ∷ 32 ∷ 97 ∷ 116 ∷ []

abbrev pub cut_text : List ℕ
cut_text = 99 ∷ 117 ∷ 116 ∷ 32 ∷ 97 ∷ 116 ∷ []

abbrev pub line_end : List ℕ
line_end = 10 ∷ []

abbrev pub text_of : Item → List ℕ
text_of (words ws) = ok_text ++ (spaced hex8 ws ++ line_end)
text_of (numbers ns) = ok_text ++ (spaced decimal ns ++ line_end)
text_of (no n) = no_text ++ ((32 ∷ decimal n) ++ line_end)
text_of (bad_mark o) = bad_text ++ ((32 ∷ decimal o) ++ line_end)
text_of (cut_at o) = cut_text ++ ((32 ∷ decimal o) ++ line_end)

abbrev pub texts_of : List Item → List ℕ
texts_of [] = []
texts_of (i ∷ is) = text_of i ++ texts_of is

-- the place past the line, and the run with the line from the place on; where fewer than 96 bytes are left, the same place and run
unfoldable pub line_at : List ℕ → ℕ → List Item → ℕ × List ℕ
line_at o at is = cond (leb (at + 96) (length o)) (at + length (texts_of is), sets o at (texts_of is)) (at, o)

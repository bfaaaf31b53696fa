-- What writing words into a lent run says and leaves. Assumes nothing.
use Rattle.std.specs.Prelude.{cond, List, [], ◌∷◌, ◌++◌, ℕ, ◌+◌, ◌*◌, ◌/◌, ◌%◌, eqb, leb, length}
use Rattle.std.proofs.lemmas.List.Edits.{sets}
use Rattle.words.specs.Said.{Said, ok, no}
use Rattle.words.specs.Place.{base_of, pos_of}
use Rattle.words.specs.declared.Address.{Address}
use Rattle.words.specs.declared.Place.{Place}

-- ---- document 01: at a position

-- what is said, and the run as it then is: all words from the position on, and the position after them; or 8, and the run as it was
unfoldable pub put_at : List ℕ → ℕ → Said (List ℕ) → Said ℕ × List ℕ
put_at ws at (ok vs) = cond (leb (at + length vs) (length ws)) (ok (at + length vs), sets ws at vs) (no 8, ws)
put_at ws at (no n) = (no n, ws)

-- "a word is four bytes, low byte first"
abbrev pub bytes_of : ℕ → List ℕ
bytes_of w = w % 256 ∷ w / 256 % 256 ∷ w / 65536 % 256 ∷ w / 16777216 ∷ []

abbrev pub all_bytes : List ℕ → List ℕ
all_bytes [] = []
all_bytes (w ∷ ws) = bytes_of w ++ all_bytes ws

-- the words that bytes spell; a tail under four is none
abbrev pub words_in : List ℕ → List ℕ
words_in (a ∷ b ∷ c ∷ d ∷ bs) = (a + b * 256 + c * 65536 + d * 16777216) ∷ words_in bs
words_in (a ∷ b ∷ c ∷ []) = []
words_in (a ∷ b ∷ []) = []
words_in (a ∷ []) = []
words_in [] = []

-- the same in a run of bytes, the position counting words; "a tail under four is no room"
unfoldable pub put_bytes_at : List ℕ → ℕ → Said (List ℕ) → Said ℕ × List ℕ
put_bytes_at bs at (ok vs) = cond (leb (at + length vs) (length bs / 4)) (ok (at + length vs), sets bs (at * 4) (all_bytes vs)) (no 8, bs)
put_bytes_at bs at (no n) = (no n, bs)

-- ---- document 02, g: at a place

-- "a multiple of 4, refusal 15 otherwise", and "15 is tested first": what is asked for, or 15
unfoldable pub based : Place → Said (List ℕ) → Said (List ℕ)
based at x = cond (eqb (base_of at % 4) 0) x (no 15)

-- the position that is said, and the base that was given with it
abbrev pub based_at : Address → Said ℕ × List ℕ → Said Place × List ℕ
based_at b (ok p, ws) = (ok (record { base = b; position = record { 0 = p } }), ws)
based_at b (no n, ws) = (no n, ws)

unfoldable pub put_of : List ℕ → Place → Said (List ℕ) → Said Place × List ℕ
put_of ws at x = based_at at.base (put_at ws (pos_of at) (based at x))

unfoldable pub put_bytes_of : List ℕ → Place → Said (List ℕ) → Said Place × List ℕ
put_bytes_of bs at x = based_at at.base (put_bytes_at bs (pos_of at) (based at x))

-- The words of bytes, and how far the items of a piece were printed. Assumes nothing.
use Rattle.std.specs.Prelude.{◌≡◌, ℕ, ◌+◌, ◌*◌, ◌^◌, ◌≤◌, Bool, true, false, List, [], ◌∷◌, ◌++◌, length, drop, slice_index}
use Rattle.std.proofs.lemmas.List.Edits.{sets}
use Rattle.lines.specs.Parts.{bytes_of_all}
use Rattle.archive_pieces.specs.declared.Told.{Told}
use Rattle.archive_pieces.specs.Steps.{Carried}
use Rattle.std.specs.Prelude.{None}
use Rattle.archive_pieces.specs.declared.Step.TheVariants.{Tell, Carry}
use Rattle.archive_pieces.specs.Steps.{step_of}
use Rattle.archive_pieces.specs.Archive.{on_by}
use Rattle.archive_lines.specs.Lines.{parts_of}

-- the word of the first four bytes, "low byte first"
abbrev pub word_of : List ℕ → ℕ
word_of bs = slice_index bs 0 + slice_index bs 1 * 2 ^ 8 + slice_index bs 2 * 2 ^ 16 + slice_index bs 3 * 2 ^ 24

-- the whole words of bytes
abbrev pub words_of : List ℕ → List ℕ
words_of [] = []
words_of (a ∷ []) = []
words_of (a ∷ b ∷ []) = []
words_of (a ∷ b ∷ c ∷ []) = []
words_of (a ∷ b ∷ c ∷ d ∷ bs) = word_of (a ∷ b ∷ c ∷ d ∷ []) ∷ words_of bs

-- step after step in a piece ws that stands at a position, with what is carried into it: so many of its words were taken and these items told, and
-- what is carried at the position behind; or the piece is at its end
pub data Steps (ws : List ℕ) (at₀ : ℕ) (k₀ : Carried) : Bool → ℕ → ℕ → Carried → List Told → Type 0 where
  start : Steps ws at₀ k₀ false 0 at₀ k₀ []
  tell : {i at n : ℕ} {k : Carried} {t : Told} {ts : List Told} → Steps ws at₀ k₀ false i at k ts → step_of (drop i ws) at k ≡ Tell t n
      → Steps ws at₀ k₀ false (i + n) (on_by at n) None (ts ++ (t ∷ []))
  carry : {i at : ℕ} {k l : Carried} {ts : List Told} → Steps ws at₀ k₀ false i at k ts → step_of (drop i ws) at k ≡ Carry l
      → Steps ws at₀ k₀ true (length ws) (on_by at (length (drop i ws))) l ts

-- the lines of items
abbrev pub texts_of : List Told → List ℕ
texts_of [] = []
texts_of (t ∷ ts) = bytes_of_all (parts_of t) ++ texts_of ts

-- the lines of the items told stand at the start of a run o, which is then o'
pub record Upto (ws : List ℕ) (at₀ : ℕ) (k₀ : Carried) (o : List ℕ) (ended : Bool) (i at : ℕ) (k : Carried) (written : ℕ) (o' : List ℕ) : Type 0 where
  pub told : List Told
  pub steps : Steps ws at₀ k₀ ended i at k told
  pub text : written ≡ length (texts_of told)
  pub holds : o' ≡ sets o 0 (texts_of told)
  pub same : length o' ≡ length o
  pub room : written ≤ length o

-- all items of a piece were told but for what is carried on
pub record Passed (ws : List ℕ) (at₀ : ℕ) (k₀ : Carried) (at : ℕ) (k : Carried) : Type 0 where
  pub told : List Told
  pub steps : Steps ws at₀ k₀ true (length ws) at k told

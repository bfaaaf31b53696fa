-- What a record of the batch program says; document 01's sentences stand in quotes. Assumes nothing.
use Rattle.std.specs.Prelude.{◌≡◌, Bool, cond, ◌&&◌, List, [], ◌∷◌, ℕ, zero, suc, ◌+◌, ◌*◌, eqb, ltb, get_or}
use Rattle.words.specs.Said.{Said, ok, no}
use Rattle.lines.specs.Item.{Item}
use Rattle.lines.specs.Item as item
use Rattle.logical.specs.Answer.{number_list, Encoded}
use Rattle.logical.specs.declared.LogicalImm.{LogicalImm}
use Rattle.moves.specs.Moves.{mov_said}
use Rattle.immediates.specs.Says.{FloatSays}

-- "Each record opens with the two bytes 46 53, then kind, register and an 8-byte little-endian value: 12 bytes"
unfoldable pub marked : List ℕ → Bool
marked r = eqb (get_or r 0 0) 0x46 && eqb (get_or r 1 0) 0x53

abbrev pub kind_of : List ℕ → ℕ
kind_of r = get_or r 2 0

abbrev pub register_of : List ℕ → ℕ
register_of r = get_or r 3 0

-- n bytes from byte i on, low byte first
abbrev pub little : ℕ → ℕ → List ℕ → ℕ
little zero i r = 0
little (suc n) i r = get_or r i 0 + 256 * little n (suc i) r

unfoldable pub value_of : List ℕ → ℕ
value_of r = little 8 4 r

-- "Kind 1 move, 2 logical fields at 64, 3 at 32, 4 fp64"
pub data Asked : Type 0 where
  move : Asked
  fields : ℕ → Asked
  fp64 : Asked
  other : Asked

unfoldable pub asked_by : ℕ → Asked
asked_by k =
    cond (eqb k 1) move
    (cond (eqb k 2) (fields 64)
    (cond (eqb k 3) (fields 32)
    (cond (eqb k 4) fp64
    other)))

-- "`ok` and words in 8 lower-case hex digits, or N S R in decimal, or the 8-bit float in decimal; `no` and a number";
-- "kinds 2 and 3 now print a fourth number", the element length
abbrev pub words_line : Said (List ℕ) → Item
words_line (ok ws) = item.words ws
words_line (no n) = item.no n

abbrev pub fields_line : Said LogicalImm → Item
fields_line (ok f) = item.numbers (number_list f)
fields_line (no n) = item.no n

abbrev pub float_line : Said ℕ → Item
float_line (ok b) = item.numbers (b ∷ [])
float_line (no n) = item.no n

-- the line is that of an answer which the encoder's contract allows (it allows one); "others print `no 7`"; "The register counts in kind 1 only"
abbrev pub Says : Asked → (register value : ℕ) → Item → Type 0
Says move register value i = i ≡ words_line (mov_said value register)
Says (fields w) register value i = (a : Said LogicalImm) × Encoded w value a × (i ≡ fields_line a)
Says fp64 register value i = (a : Said ℕ) × FloatSays 64 value a × (i ≡ float_line a)
Says other register value i = i ≡ item.no 7

-- the line of twelve bytes at an offset: the mark is compared first, and "`bad mark at` .. and the record's byte offset"
unfoldable pub LineOf : (r : List ℕ) (offset : ℕ) → Item → Type 0
LineOf r offset i = cond (marked r) (Says (asked_by (kind_of r)) (register_of r) (value_of r) i) (i ≡ item.bad_mark offset)

-- "A tail under 12 bytes is cut, whatever it holds. Empty input prints nothing"; twelve bytes or more are no tail
abbrev pub tail_of : (count offset : ℕ) → List Item
tail_of count offset = cond (eqb count 0) [] (cond (ltb count 12) (item.cut_at offset ∷ []) [])

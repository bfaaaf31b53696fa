-- Document 01's three records, and lines of every kind, each the only ones that the definitions allow (`the-lines` of Model). Assumes nothing.
use mathlib.Core.Path.{◌≡◌, refl, ap, ◌∙◌}
use mathlib.Core.List.{List, [], ◌∷◌, ◌++◌}
use Prim.Native.Nat.{ℕ, zero, suc, ◌/◌, ◌%◌}
use Rattle.lines.specs.Item.{Item, words, numbers, no, bad_mark, cut_at}
use Rattle.lines.specs.Text.{texts_of, decimal}
use Rattle.halfwords.specs.Halfwords.{count}
use Rattle.logical.proofs.Model.{encode_of}
use Rattle.moves.specs.Moves.{others, long, short, words_of_move, mov_said}
use Rattle.records.specs.Records.{marked, value_of, asked_by}
use Rattle.records.specs.Inputs.{Prints}
use Rattle.records.proofs.Model.{line_of, lines_of, the_lines}

-- "move all ones to 3; fields at 64 of 5555555555555555; move 0 to 31"
abbrev pub three : List ℕ
three =
    0x46 ∷ 0x53 ∷ 1 ∷ 3 ∷ 0xFF ∷ 0xFF ∷ 0xFF ∷ 0xFF ∷ 0xFF ∷ 0xFF ∷ 0xFF ∷ 0xFF
    ∷ 0x46 ∷ 0x53 ∷ 2 ∷ 0 ∷ 0x55 ∷ 0x55 ∷ 0x55 ∷ 0x55 ∷ 0x55 ∷ 0x55 ∷ 0x55 ∷ 0x55
    ∷ 0x46 ∷ 0x53 ∷ 1 ∷ 31 ∷ 0 ∷ 0 ∷ 0 ∷ 0 ∷ 0 ∷ 0 ∷ 0 ∷ 0 ∷ []

-- `ok 92800003`, `ok 0 60 0 2`, `no 2`
abbrev pub three_lines : List ℕ
three_lines =
    111 ∷ 107 ∷ 32 ∷ 57 ∷ 50 ∷ 56 ∷ 48 ∷ 48 ∷ 48 ∷ 48 ∷ 51 ∷ 10
    ∷ 111 ∷ 107 ∷ 32 ∷ 48 ∷ 32 ∷ 54 ∷ 48 ∷ 32 ∷ 48 ∷ 32 ∷ 50 ∷ 10
    ∷ 110 ∷ 111 ∷ 32 ∷ 50 ∷ 10 ∷ []

computed : texts_of (lines_of 0 three) ≡ three_lines
unfolding decimal marked value_of asked_by line_of lines_of encode_of mov_said words_of_move long short count others
computed = refl

-- "print exactly"
pub three_print : (is : List Item) → Prints 0 three is → texts_of is ≡ three_lines
three_print is h = ap texts_of (the_lines 0 three is h) ∙ computed

-- ---- lines of every kind

abbrev bytes_of : ℕ → ℕ → List ℕ
bytes_of zero v = []
bytes_of (suc n) v = v % 256 ∷ bytes_of n (v / 256)

abbrev asks : (kind register value : ℕ) → List ℕ
asks kind register value = 0x46 ∷ 0x53 ∷ kind ∷ register ∷ bytes_of 8 value

pub every_kind :
    lines_of 0
    (asks 1 0 0x12345678
    ++ asks 1 30 0x5555666677778888
    ++ asks 2 0 0xFF
    ++ asks 2 255 0xFF  -- the register does not count
    ++ asks 2 0 5
    ++ asks 3 31 0x1000000FF
    ++ asks 4 31 0x3FF0000000000000
    ++ asks 4 0 0
    ++ asks 0 0 0
    ++ asks 5 0 0
    ++ asks 255 0 0
    ++ (0x46 ∷ []))
    ≡ words (0xD28ACF00 ∷ 0xF2A24680 ∷ [])
    ∷ words (0xD291111E ∷ 0xF2AEEEFE ∷ 0xF2CCCCDE ∷ 0xF2EAAABE ∷ [])
    ∷ numbers (1 ∷ 7 ∷ 0 ∷ 64 ∷ [])
    ∷ numbers (1 ∷ 7 ∷ 0 ∷ 64 ∷ [])
    ∷ no 3
    ∷ numbers (0 ∷ 7 ∷ 0 ∷ 32 ∷ [])
    ∷ numbers (112 ∷ [])
    ∷ no 3
    ∷ no 7
    ∷ no 7
    ∷ no 7
    ∷ cut_at 132
    ∷ []
unfolding marked value_of asked_by line_of lines_of encode_of mov_said words_of_move long short count others
every_kind = refl

-- the first byte of the mark, and the second; a bad mark is the end
pub bad_first : lines_of 0 (0x47 ∷ 0x53 ∷ 1 ∷ 0 ∷ bytes_of 8 0 ++ asks 1 0 0) ≡ bad_mark 0 ∷ []
unfolding marked line_of lines_of
bad_first = refl

pub bad_second : lines_of 0 (asks 1 0 0 ++ (0x46 ∷ 0x54 ∷ 1 ∷ 0 ∷ bytes_of 8 0) ++ (0x46 ∷ [])) ≡ words (0xD2800000 ∷ []) ∷ bad_mark 12 ∷ []
unfolding marked value_of asked_by line_of lines_of mov_said words_of_move short
bad_second = refl

-- tails, whatever they hold
pub empty : lines_of 0 [] ≡ []
unfolding lines_of
empty = refl

pub one_byte : lines_of 0 (0 ∷ []) ≡ cut_at 0 ∷ []
unfolding lines_of
one_byte = refl

pub eleven_bytes : lines_of 0 (0 ∷ 0 ∷ 0 ∷ 0 ∷ 0 ∷ 0 ∷ 0 ∷ 0 ∷ 0 ∷ 0 ∷ 0 ∷ []) ≡ cut_at 0 ∷ []
unfolding lines_of
eleven_bytes = refl

-- A line of each kind, byte by byte. Assumes nothing.
use mathlib.Core.Path.{◌≡◌, refl}
use mathlib.Core.Bool.{true, false}
use mathlib.Core.List.{[], ◌∷◌}
use lib.IntN.{negsuc}
use Rattle.lines.specs.Text.{decimal}
use Rattle.lines.specs.Parts.{bytes_of_all}
use Rattle.moves.specs.Moves.{mov_said, words_of_move, short}
use Rattle.items.specs.declared.Item.TheVariants.{Wide, Logical, Displaced, Unknown}
use Rattle.archive_pieces.specs.declared.Told.TheVariants.{Joined, Single}
use Rattle.archive_lines.specs.Lines.{fewest_of, parts_of}

-- `0 constant register 3 size 64 value 0000000012345678 words 2`
pub a_constant : bytes_of_all (parts_of (Joined (record { sf = 1; rd = 3; value = 0x12345678; count = 2 }) 0))
    ≡ 48 ∷ 32 ∷ 99 ∷ 111 ∷ 110 ∷ 115 ∷ 116 ∷ 97 ∷ 110 ∷ 116 ∷ 32 ∷ 114 ∷ 101 ∷ 103 ∷ 105 ∷ 115 ∷ 116 ∷ 101 ∷ 114 ∷ 32 ∷ 51 ∷ 32 ∷ 115 ∷ 105 ∷ 122 ∷ 101 ∷ 32 ∷ 54 ∷ 52 ∷ 32 ∷ 118 ∷ 97 ∷ 108 ∷ 117 ∷ 101 ∷ 32 ∷ 48 ∷ 48 ∷ 48 ∷ 48 ∷ 48 ∷ 48 ∷ 48 ∷ 48 ∷ 49 ∷ 50 ∷ 51 ∷ 52 ∷ 53 ∷ 54 ∷ 55 ∷ 56 ∷ 32 ∷ 119 ∷ 111 ∷ 114 ∷ 100 ∷ 115 ∷ 32 ∷ 50 ∷ 10 ∷ []
unfolding decimal fewest_of mov_said words_of_move short
a_constant = refl

-- `4 constant register 0 size 64 value 0000000000001234 words 4 could be 1`
pub could_be_one : bytes_of_all (parts_of (Joined (record { sf = 1; rd = 0; value = 0x1234; count = 4 }) 4))
    ≡ 52 ∷ 32 ∷ 99 ∷ 111 ∷ 110 ∷ 115 ∷ 116 ∷ 97 ∷ 110 ∷ 116 ∷ 32 ∷ 114 ∷ 101 ∷ 103 ∷ 105 ∷ 115 ∷ 116 ∷ 101 ∷ 114 ∷ 32 ∷ 48 ∷ 32 ∷ 115 ∷ 105 ∷ 122 ∷ 101 ∷ 32 ∷ 54 ∷ 52 ∷ 32 ∷ 118 ∷ 97 ∷ 108 ∷ 117 ∷ 101 ∷ 32 ∷ 48 ∷ 48 ∷ 48 ∷ 48 ∷ 48 ∷ 48 ∷ 48 ∷ 48 ∷ 48 ∷ 48 ∷ 48 ∷ 48 ∷ 49 ∷ 50 ∷ 51 ∷ 52 ∷ 32 ∷ 119 ∷ 111 ∷ 114 ∷ 100 ∷ 115 ∷ 32 ∷ 52 ∷ 32 ∷ 99 ∷ 111 ∷ 117 ∷ 108 ∷ 100 ∷ 32 ∷ 98 ∷ 101 ∷ 32 ∷ 49 ∷ 10 ∷ []
unfolding decimal fewest_of mov_said words_of_move short
could_be_one = refl

-- `8 movk register 3 size 64 halfword 00001234 place 2`
pub a_movk : bytes_of_all (parts_of (Single (Wide (record { sf = 1; opc = 3; hw = 2; imm16 = 0x1234; rd = 3 })) 8))
    ≡ 56 ∷ 32 ∷ 109 ∷ 111 ∷ 118 ∷ 107 ∷ 32 ∷ 114 ∷ 101 ∷ 103 ∷ 105 ∷ 115 ∷ 116 ∷ 101 ∷ 114 ∷ 32 ∷ 51 ∷ 32 ∷ 115 ∷ 105 ∷ 122 ∷ 101 ∷ 32 ∷ 54 ∷ 52 ∷ 32 ∷ 104 ∷ 97 ∷ 108 ∷ 102 ∷ 119 ∷ 111 ∷ 114 ∷ 100 ∷ 32 ∷ 48 ∷ 48 ∷ 48 ∷ 48 ∷ 49 ∷ 50 ∷ 51 ∷ 52 ∷ 32 ∷ 112 ∷ 108 ∷ 97 ∷ 99 ∷ 101 ∷ 32 ∷ 50 ∷ 10 ∷ []
unfolding decimal fewest_of mov_said words_of_move short
a_movk = refl

-- `9 logical and width 64 rn 3 rd 4 value 00000000000000ff fields 1 7 0 length 64`
pub a_logical : bytes_of_all (parts_of (Single (Logical (record { operation = 0; width = 64; rn = 3; rd = 4; value = 0xFF; n = 1; s = 7; r = 0; length = 64; normal = true })) 9))
    ≡ 57 ∷ 32 ∷ 108 ∷ 111 ∷ 103 ∷ 105 ∷ 99 ∷ 97 ∷ 108 ∷ 32 ∷ 97 ∷ 110 ∷ 100 ∷ 32 ∷ 119 ∷ 105 ∷ 100 ∷ 116 ∷ 104 ∷ 32 ∷ 54 ∷ 52 ∷ 32 ∷ 114 ∷ 110 ∷ 32 ∷ 51 ∷ 32 ∷ 114 ∷ 100 ∷ 32 ∷ 52 ∷ 32 ∷ 118 ∷ 97 ∷ 108 ∷ 117 ∷ 101 ∷ 32 ∷ 48 ∷ 48 ∷ 48 ∷ 48 ∷ 48 ∷ 48 ∷ 48 ∷ 48 ∷ 48 ∷ 48 ∷ 48 ∷ 48 ∷ 48 ∷ 48 ∷ 102 ∷ 102 ∷ 32 ∷ 102 ∷ 105 ∷ 101 ∷ 108 ∷ 100 ∷ 115 ∷ 32 ∷ 49 ∷ 32 ∷ 55 ∷ 32 ∷ 48 ∷ 32 ∷ 108 ∷ 101 ∷ 110 ∷ 103 ∷ 116 ∷ 104 ∷ 32 ∷ 54 ∷ 52 ∷ 10 ∷ []
unfolding decimal fewest_of mov_said words_of_move short
a_logical = refl

-- `10 logical ands width 32 rn 31 rd 0 value 0000000055555555 fields 0 60 2 length 2 not normal`
pub not_normal : bytes_of_all (parts_of (Single (Logical (record { operation = 3; width = 32; rn = 31; rd = 0; value = 0x55555555; n = 0; s = 60; r = 2; length = 2; normal = false })) 10))
    ≡ 49 ∷ 48 ∷ 32 ∷ 108 ∷ 111 ∷ 103 ∷ 105 ∷ 99 ∷ 97 ∷ 108 ∷ 32 ∷ 97 ∷ 110 ∷ 100 ∷ 115 ∷ 32 ∷ 119 ∷ 105 ∷ 100 ∷ 116 ∷ 104 ∷ 32 ∷ 51 ∷ 50 ∷ 32 ∷ 114 ∷ 110 ∷ 32 ∷ 51 ∷ 49 ∷ 32 ∷ 114 ∷ 100 ∷ 32 ∷ 48 ∷ 32 ∷ 118 ∷ 97 ∷ 108 ∷ 117 ∷ 101 ∷ 32 ∷ 48 ∷ 48 ∷ 48 ∷ 48 ∷ 48 ∷ 48 ∷ 48 ∷ 48 ∷ 53 ∷ 53 ∷ 53 ∷ 53 ∷ 53 ∷ 53 ∷ 53 ∷ 53 ∷ 32 ∷ 102 ∷ 105 ∷ 101 ∷ 108 ∷ 100 ∷ 115 ∷ 32 ∷ 48 ∷ 32 ∷ 54 ∷ 48 ∷ 32 ∷ 50 ∷ 32 ∷ 108 ∷ 101 ∷ 110 ∷ 103 ∷ 116 ∷ 104 ∷ 32 ∷ 50 ∷ 32 ∷ 110 ∷ 111 ∷ 116 ∷ 32 ∷ 110 ∷ 111 ∷ 114 ∷ 109 ∷ 97 ∷ 108 ∷ 10 ∷ []
unfolding decimal fewest_of mov_said words_of_move short
not_normal = refl

-- `11 displacement format 0 base 14000000 distance -4`
pub a_displacement : bytes_of_all (parts_of (Single (Displaced (record { format = 0; base = record { 0 = 0x14000000 }; distance = record { 0 = negsuc 3 } })) 11))
    ≡ 49 ∷ 49 ∷ 32 ∷ 100 ∷ 105 ∷ 115 ∷ 112 ∷ 108 ∷ 97 ∷ 99 ∷ 101 ∷ 109 ∷ 101 ∷ 110 ∷ 116 ∷ 32 ∷ 102 ∷ 111 ∷ 114 ∷ 109 ∷ 97 ∷ 116 ∷ 32 ∷ 48 ∷ 32 ∷ 98 ∷ 97 ∷ 115 ∷ 101 ∷ 32 ∷ 49 ∷ 52 ∷ 48 ∷ 48 ∷ 48 ∷ 48 ∷ 48 ∷ 48 ∷ 32 ∷ 100 ∷ 105 ∷ 115 ∷ 116 ∷ 97 ∷ 110 ∷ 99 ∷ 101 ∷ 32 ∷ 45 ∷ 52 ∷ 10 ∷ []
unfolding decimal fewest_of mov_said words_of_move short
a_displacement = refl

-- `12 unknown d503201f`
pub an_unknown : bytes_of_all (parts_of (Single (Unknown (record { 0 = 0xD503201F })) 12))
    ≡ 49 ∷ 50 ∷ 32 ∷ 117 ∷ 110 ∷ 107 ∷ 110 ∷ 111 ∷ 119 ∷ 110 ∷ 32 ∷ 100 ∷ 53 ∷ 48 ∷ 51 ∷ 50 ∷ 48 ∷ 49 ∷ 102 ∷ 10 ∷ []
unfolding decimal fewest_of mov_said words_of_move short
an_unknown = refl

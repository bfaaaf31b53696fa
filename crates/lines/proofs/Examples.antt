-- Document 01's three lines, byte by byte. Assumes nothing.
use mathlib.Core.Path.{◌≡◌, refl}
use mathlib.Core.List.{[], ◌∷◌, ◌++◌}
use Rattle.lines.specs.Item.{words, numbers, no, bad_mark, cut_at}
use Rattle.lines.specs.Text.{decimal, texts_of}

-- `ok 92800003`, `ok 0 60 0`, `no 2`
pub three_lines_lem :
    texts_of (words (0x92800003 ∷ []) ∷ numbers (0 ∷ 60 ∷ 0 ∷ []) ∷ no 2 ∷ [])
    ≡ (111 ∷ 107 ∷ 32 ∷ 57 ∷ 50 ∷ 56 ∷ 48 ∷ 48 ∷ 48 ∷ 48 ∷ 51 ∷ 10 ∷ [])
    ++ (111 ∷ 107 ∷ 32 ∷ 48 ∷ 32 ∷ 54 ∷ 48 ∷ 32 ∷ 48 ∷ 10 ∷ [])
    ++ (110 ∷ 111 ∷ 32 ∷ 50 ∷ 10 ∷ [])
unfolding decimal
three_lines_lem = refl

-- `bad mark at 12`, `cut at 18446744073709551615`
pub two_ends :
    texts_of (bad_mark 12 ∷ cut_at 18446744073709551615 ∷ [])
    ≡ (98 ∷ 97 ∷ 100 ∷ 32 ∷ 109 ∷ 97 ∷ 114 ∷ 107 ∷ 32 ∷ 97 ∷ 116 ∷ 32 ∷ 49 ∷ 50 ∷ 10 ∷ [])
    ++ (99 ∷ 117 ∷ 116 ∷ 32 ∷ 97 ∷ 116 ∷ 32 ∷ 49 ∷ 56 ∷ 52 ∷ 52 ∷ 54 ∷ 55 ∷ 52 ∷ 52 ∷ 48 ∷ 55 ∷ 51 ∷ 55 ∷ 48 ∷ 57 ∷ 53 ∷ 53 ∷ 49 ∷ 54 ∷ 49 ∷ 53 ∷ 10 ∷ [])
unfolding decimal
two_ends = refl

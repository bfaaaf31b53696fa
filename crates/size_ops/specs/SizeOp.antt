-- What `element_type_to_size_op` says. Assumes nothing.
use Rattle.std.specs.Prelude.{cond, [], ◌∷◌, ℕ, ◌-◌, eqb, ltb, get_or}
use Rattle.std.specs.Int.Bits.{bit_and}
use Rattle.words.specs.Said.{Said, ok, no}
use Rattle.words.specs.Bit.{bit_of}
use Rattle.simd.specs.Kinds.{Vec8, Vec64, Vec128, none, B, D, within}

-- "Table 0: Vec64 none and B 0, Vec128 none and B 1. The rest are FF"
abbrev entry_of0 : ℕ → ℕ → ℕ
entry_of0 kind element =
    cond (within none B element)
    (cond (eqb kind Vec64) 0 (cond (eqb kind Vec128) 1 0xFF))
    0xFF

-- "Table 1: none at Vec8 to Vec64 2, 6, 10, 14; Vec64 B, H, S, D 0, 4, 8, 14; Vec128 1, 5, 9, 13. The rest are FF"
abbrev entry_of1 : ℕ → ℕ → ℕ
entry_of1 kind element =
    cond (eqb element none) (cond (within Vec8 Vec64 kind) (get_or (2 ∷ 6 ∷ 10 ∷ 14 ∷ []) (kind - Vec8) 0xFF) 0xFF)
    (cond (within B D element)
    (cond (eqb kind Vec64) (get_or (0 ∷ 4 ∷ 8 ∷ 14 ∷ []) (element - B) 0xFF)
    (cond (eqb kind Vec128) (get_or (1 ∷ 5 ∷ 9 ∷ 13 ∷ []) (element - B) 0xFF) 0xFF))
    0xFF)

-- the entry of table 0 or 1
unfoldable pub entry_of : ℕ → ℕ → ℕ → ℕ
entry_of table kind element = cond (eqb table 0) (entry_of0 kind element) (entry_of1 kind element)

-- "FF, or an entry that is no bit of the accept mask, gives FF as an ordinary answer; else the entry is and-ed with the size mask"
unfoldable pub accepted_of : ℕ → ℕ → ℕ → ℕ
accepted_of mask accept entry = cond (bit_of accept entry) (bit_and entry mask) 0xFF

-- "only unknown numbers get 7"
unfoldable pub size_op_of : ℕ → ℕ → ℕ → ℕ → ℕ → Said ℕ
size_op_of table mask accept kind element =
    cond (ltb 1 table) (no 7)
    (cond (ltb 7 kind) (no 7)
    (cond (ltb 7 element) (no 7)
    (ok (accepted_of mask accept (entry_of table kind element)))))

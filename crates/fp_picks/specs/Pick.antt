-- What `pick_fp_opcode` says. Assumes nothing.
use Rattle.std.specs.Prelude.{ℕ, ◌+◌, ◌-◌, ◌^◌, cond, ◌&&◌, List, [], ◌∷◌, ◌==◌, bit_or, bit_xor, nat_lt, Result, slice_index, slice_index_or}
use Rattle.words.specs.Said.{Said, ok, no}
use Rattle.words.specs.Answer.{said_as}
use Rattle.words.specs.Bit.{bit_of}
use Rattle.fp_picks.specs.declared.FpRow.{FpRow}
use Rattle.fp_picks.specs.declared.Picked.{Picked}
use Rattle.words.specs.declared.Refusal.{Refusal}
use Rattle.simd.specs.Kinds.{Vec16, Vec64, Vec128, none, H, D, within}

-- "the word and the size, 0, 1 or 2"
abbrev pub pick_said : Result Picked Refusal → Said (ℕ × ℕ)
pick_said = said_as (λ p. (p.word.0, p.size))

-- "the six rows": the sizes, H 1, S 2, D 4; the words at H, S, D
abbrev row : ℕ → ℕ → ℕ → ℕ → FpRow
row sizes h s d = record { sizes = sizes; xor = h ∷ s ∷ d ∷ [] }

abbrev pub rows : List FpRow
rows =
    row (2 + 4) 0 0 0x400000
    ∷ row (1 + 2 + 4) 0 0 0
    ∷ row (1 + 2 + 4) 0xC00000 0 0x400000
    ∷ row (1 + 2 + 4) 0x580000 0 0
    ∷ row (1 + 2 + 4) 0x60C000 0 0x400000
    ∷ row (1 + 2 + 4) 0x800000 0 0x400000
    ∷ []

-- a row that is not there has no size
abbrev pub row_at : ℕ → FpRow
row_at n = slice_index_or rows n (record { sizes = 0; xor = [] })

-- 3 where the row lacks the size; then 10 for a zero base; then the row's word xor the opcode word
abbrev pub word_in : FpRow → ℕ → ℕ → ℕ → Said (ℕ × ℕ)
word_in r size base word =
    cond (bit_of r.sizes size)
    (cond (base == 0) (no 10) (ok (bit_xor (slice_index r.xor size) word, size)))
    (no 3)

unfoldable pub word_of : ℕ → ℕ → ℕ → ℕ → Said (ℕ × ℕ)
word_of n = word_in (row_at n)

-- "Scalar (element none): Vec16, Vec32, Vec64; row word xor base"
unfoldable pub scalar_of : ℕ → ℕ → ℕ → Said (ℕ × ℕ)
scalar_of kind base n =
    cond (nat_lt 5 n) (no 7)
    (cond (within Vec16 Vec64 kind) (word_of n (kind - Vec16) base base)
    (no 3))

-- "Vector: Vec64 or Vec128 with H, S, D; bit 30 is or-ed into the base for Vec128, then xor. A zero base is tested before bit 30"
unfoldable pub vector_of : ℕ → ℕ → ℕ → ℕ → Said (ℕ × ℕ)
vector_of kind element base n =
    cond (nat_lt 5 n) (no 7)
    (cond (within Vec64 Vec128 kind && within H D element)
    (word_of n (element - H) base (cond (kind == Vec128) (bit_or base (2 ^ 30)) base))
    (no 3))

-- "Order 7, 3, 10. The unused row number is not looked at"
unfoldable pub pick_of : ℕ → ℕ → ℕ → ℕ → ℕ → ℕ → Said (ℕ × ℕ)
pick_of kind element sbase srow vbase vrow =
    cond (nat_lt 7 kind) (no 7)
    (cond (nat_lt 7 element) (no 7)
    (cond (element == none) (scalar_of kind sbase srow) (vector_of kind element vbase vrow)))

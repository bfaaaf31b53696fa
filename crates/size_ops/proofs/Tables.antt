-- The rule of the two size-op tables, by one computed test of their entries. Assumes nothing.
use mathlib.Core.Path.{◌≡◌}
use mathlib.Core.Bool.{Bool}
use mathlib.Core.List.{List, [], ◌∷◌}
use Prim.Native.Nat.{ℕ, ◌+◌, ◌*◌, ◌/◌, ◌%◌, ◌^◌, ◌<◌}
use lib.Dec.{eqb, eqb→eq}
use lib.ListN.{get_or}
use Rattle.words.proofs.Table.{every, at}
use Rattle.size_ops.specs.SizeOp.{entry_of}

-- the code's rows
abbrev rows : List ℕ
rows =
    0xFFFF_FFFF_FFFF_FFFF
    ∷ 0xFFFF_FFFF_FFFF_FFFF
    ∷ 0xFFFF_FFFF_FFFF_FFFF
    ∷ 0xFFFF_FFFF_FFFF_FFFF
    ∷ 0xFFFF_FFFF_FFFF_FFFF
    ∷ 0xFFFF_FFFF_FFFF_FFFF
    ∷ 0xFFFF_FFFF_FFFF_0000
    ∷ 0xFFFF_FFFF_FFFF_0101
    ∷ 0xFFFF_FFFF_FFFF_FFFF
    ∷ 0xFFFF_FFFF_FFFF_FFFF
    ∷ 0xFFFF_FFFF_FFFF_FFFF
    ∷ 0xFFFF_FFFF_FFFF_FF02
    ∷ 0xFFFF_FFFF_FFFF_FF06
    ∷ 0xFFFF_FFFF_FFFF_FF0A
    ∷ 0xFFFF_FF0E_0804_000E
    ∷ 0xFFFF_FF0D_0905_01FF
    ∷ []

-- the byte of an element in the row of a kind
abbrev pub byte_of : ℕ → ℕ → ℕ → ℕ
byte_of table kind element = get_or rows (table * 8 + kind) 0 / 2 ^ (8 * element) % 256

abbrev two : List ℕ
two = 0 ∷ 1 ∷ []

abbrev eight : List ℕ
eight = 0 ∷ 1 ∷ 2 ∷ 3 ∷ 4 ∷ 5 ∷ 6 ∷ 7 ∷ []

-- the byte is the entry; so at every element; so at every kind
abbrev right : ℕ → ℕ → ℕ → ℕ → Bool
right table kind element k = eqb (byte_of table kind element) (entry_of table kind element)

abbrev right_row : ℕ → ℕ → ℕ → Bool
right_row table kind k = every (right table kind) 0 eight

abbrev right_table : ℕ → ℕ → Bool
right_table table k = every (right_row table) 0 eight

pub rule : (table kind element : ℕ) → table < 2 → kind < 8 → element < 8 → byte_of table kind element ≡ entry_of table kind element
unfolding entry_of
rule table kind element ht hk he =
    eqb→eq _ _ (at (right table kind) 0 eight (at (right_row table) 0 eight (at right_table 0 two tt table ht) kind hk) element he)

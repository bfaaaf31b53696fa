-- What stands at a position of a run of words: an item, or the end. A constant is what Arm's interpreter leaves. The sentences in quotes are document
-- 02's, a. Assumes nothing.
use Rattle.std.specs.Prelude.{Bool, false, cond, ◌&&◌, List, [], ◌∷◌, ℕ, suc, ◌+◌, ◌-◌, ◌^◌, eqb, ltb, length, drop, get_or, None, Some, Option as RustOption, Result, Ok, Err}
use Rattle.std.proofs.Math.Option.{Option, none, some}
use Rattle.arm.specs.Bits.{Ones}
use Rattle.arm.specs.MoveWide.{decode, Regs, write, datasize, run}
use Rattle.words.specs.declared.Refusal.{Refusal}
use Rattle.words.specs.declared.Refusal.TheVariants.{Width, Register, NoField, NoRoom}
use Rattle.wide_moves.specs.Wide.{wide_of}
use Rattle.items.specs.Items.{item_of}
use Rattle.items.specs.declared.Item.{Item}
use Rattle.items.specs.declared.Item.TheVariants as item
use Rattle.reader.specs.declared.Constant.{Constant}
use Rattle.reader.specs.declared.Found.{Found}
use Rattle.reader.specs.declared.Found.TheVariants.{Joined, Single, End}
use Rattle.reader.specs.declared.Span.{Span}
use Rattle.wide_moves.specs.declared.WideMove.{WideMove}

-- an item's position, and the position after it
abbrev pub span : ℕ → ℕ → Span
span at next = record { at = record { 0 = at }; next = record { 0 = next } }

-- ---- "joins a MOVZ or MOVN and the MOVK words that follow at the same register and size into one constant"

-- a MOVK at a size and a register
abbrev pub keeps : ℕ → ℕ → RustOption WideMove → Bool
keeps sf rd None = false
keeps sf rd (Some m) = eqb m.opc 3 && (eqb m.sf sf && eqb m.rd rd)

-- the words up to the first that is no such MOVK
unfoldable pub leading : ℕ → ℕ → List ℕ → List ℕ
leading sf rd [] = []
leading sf rd (w ∷ ws) = cond (keeps sf rd (wide_of (decode w))) (w ∷ leading sf rd ws) []

-- the words of the constant at a position
abbrev pub words_along : List ℕ → ℕ → ℕ → ℕ → List ℕ
words_along ws at sf rd = get_or ws at 0 ∷ leading sf rd (drop (suc at) ws)

-- what words leave in a register, run by Arm's interpreter on registers that are 0
abbrev pub left_in : ℕ → Option Regs → ℕ
left_in rd none = 0
left_in rd (some R) = R rd

abbrev pub value_of : ℕ → List ℕ → ℕ
value_of rd ws = left_in rd (run ws (λ k. 0))

unfoldable pub joined_of : List ℕ → ℕ → ℕ → ℕ → Found
joined_of ws at sf rd =
    let ms = words_along ws at sf rd in
    Joined (record { sf = sf; rd = rd; value = value_of rd ms; count = length ms }) (span at (at + length ms))

-- ---- any position

-- "A lone MOVK is shown as one"; every item but a constant is one word
abbrev pub found_item : List ℕ → ℕ → Item → Found
found_item ws at (item.Wide m) = cond (eqb m.opc 3) (Single (item.Wide m) (span at (at + 1))) (joined_of ws at m.sf m.rd)
found_item ws at (item.Logical l) = Single (item.Logical l) (span at (at + 1))
found_item ws at (item.Displaced d) = Single (item.Displaced d) (span at (at + 1))
found_item ws at (item.Unknown w) = Single (item.Unknown w) (span at (at + 1))

-- 8 past the end of the run; the end itself is an answer
unfoldable pub found_of : List ℕ → ℕ → Result Found Refusal
found_of ws at = cond (ltb (length ws) at) (Err NoRoom) (Ok (cond (eqb (length ws) at) End (found_item ws at (item_of (get_or ws at 0)))))

-- ---- a constant whose words end where a piece of the run begins

-- the constant with the MOVK words at the piece's start
abbrev pub with_movks : List ℕ → Constant → Constant
with_movks ws c =
    let ms = leading c.sf c.rd ws in
    record { sf = c.sf; rd = c.rd; value = left_in c.rd (run ms (write (λ k. 0) c.rd c.value)); count = c.count + length ms }

unfoldable pub joined_on : List ℕ → Constant → Found
joined_on ws c = Joined (with_movks ws c) (span 0 (length (leading c.sf c.rd ws)))

-- 1, 2 or 3 where its size, its register or its value at the size is none, 8 where the count of its words would not fit
unfoldable pub resumed_of : List ℕ → Constant → Result Found Refusal
resumed_of ws c =
    cond (ltb 1 c.sf) (Err Width)
    (cond (ltb 30 c.rd) (Err Register)
    (cond (ltb (Ones (datasize c.sf)) c.value) (Err NoField)
    (cond (ltb (2 ^ 64 - 1 - c.count) (length ws)) (Err NoRoom)
    (Ok (joined_on ws c)))))

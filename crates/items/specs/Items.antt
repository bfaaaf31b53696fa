-- What one word is, by Arm's decoders. The sentences in quotes are document 02's, a. Assumes nothing.
use Rattle.std.specs.Prelude.{cond, ℕ, ltb, None, Some, Option as RustOption}
use Rattle.std.proofs.Math.Option.{Option, none, some}
use Rattle.std.specs.Int.{w64}
use Rattle.std.proofs.Common.{to_z}
use Rattle.arm.specs.BitMasks.{wmask, esize}
use Rattle.arm.specs.LogicalImmediate.{LogicalOp, AND, ORR, EOR, ANDS, Logical, decode_logical}
use Rattle.arm.specs.MoveWide.{decode, datasize}
use Rattle.words.specs.declared.Opc.{Opc}
use Rattle.forms.specs.Form.{is_of_form}
use Rattle.displacements.specs.Forms.{form_of, clear_in}
use Rattle.displacements.specs.Answer.{offset}
use Rattle.wide_moves.specs.Wide.{wide_of}
use Rattle.items.specs.declared.Displacement.{Displacement}
use Rattle.items.specs.declared.Item.{Item}
use Rattle.items.specs.declared.Item.TheVariants as item
use Rattle.items.specs.declared.LogicalWord.{LogicalWord}
use Rattle.wide_moves.specs.declared.WideMove.{WideMove}

abbrev pub opc : ℕ → Opc
opc w = record { 0 = w }

-- ---- "the six displacement forms (request h)'s instructions)"

-- the format whose form the word has; 6 where it has none's
unfoldable pub form_number : ℕ → ℕ
form_number w = cond (is_of_form 0 w) 0 (cond (is_of_form 1 w) 1 (cond (is_of_form 2 w) 2 (cond (is_of_form 3 w) 3 (cond (is_of_form 4 w) 4 (cond (is_of_form 5 w) 5 6)))))

-- the base with its field empty, and the signed distance
abbrev pub displacement_of : ℕ → ℕ → Displacement
displacement_of w n = record { format = n; base = opc (clear_in (form_of n) w); distance = record { 0 = to_z w64 (offset n w) } }

-- "and names any other word as unknown"
abbrev pub displaced_of : ℕ → ℕ → Item
displaced_of w n = cond (ltb 5 n) (item.Unknown (opc w)) (item.Displaced (displacement_of w n))

-- ---- "logical immediates"

-- document 01's numbers of the operations
abbrev pub operation_of : LogicalOp → ℕ
operation_of AND = 0
operation_of ORR = 1
operation_of EOR = 2
operation_of ANDS = 3

-- the value at the width, its fields, and the element length; "logical fields with a large R, which it reports as not normal"
abbrev pub logical_word_item : Logical → LogicalWord
logical_word_item m =
    let width = datasize m.sf in
    let length = esize m.N m.imms in
    record {
      operation = operation_of m.op;
      width = width;
      rn = m.Rn;
      rd = m.Rd;
      value = wmask width m.N m.imms m.immr;
      n = m.N;
      s = m.imms;
      r = m.immr;
      length = length;
      normal = ltb m.immr length;
    }

abbrev pub logical_or : Option Logical → Item → Item
logical_or none i = i
logical_or (some m) i = item.Logical (logical_word_item m)

unfoldable pub other_of : ℕ → Item
other_of w = logical_or (decode_logical w) (displaced_of w (form_number w))

-- ---- "the three wide moves"

abbrev pub move_or : RustOption WideMove → Item → Item
move_or (Some m) i = item.Wide m
move_or None i = i

unfoldable pub item_of : ℕ → Item
item_of w = move_or (wide_of (decode w)) (other_of w)

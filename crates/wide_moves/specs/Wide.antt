-- A wide move by its fields: what is read from a word, and the word that is written from them. Assumes nothing.
use Rattle.std.specs.Prelude.{cond, ◌||◌, List, [], ◌∷◌, ℕ, ◌+◌, ◌*◌, ◌^◌, eqb, leb, ltb, Some, None, Option as RustOption}
use Rattle.std.proofs.Math.Option.{Option, none, some}
use Rattle.arm.specs.MoveWide.{Op, MOVN, MOVZ, MOVK, Wide}
use Rattle.words.specs.Said.{Said, ok, no}
use Rattle.wide_moves.specs.declared.WideMove.{WideMove}

-- Arm's opc
abbrev pub opc_of : Op → ℕ
opc_of MOVN = 0
opc_of MOVZ = 2
opc_of MOVK = 3

-- "the three wide moves"; "a wide move to register 31 is unknown"
abbrev pub wide_of : Option Wide → RustOption WideMove
wide_of none = None
wide_of (some m) = cond (eqb m.Rd 31) None (Some (record { sf = m.sf; opc = opc_of m.op; hw = m.hw; imm16 = m.imm16; rd = m.Rd }))

-- the fields where Arm has them
abbrev pub composed : WideMove → ℕ
composed m = m.sf * 2 ^ 31 + m.opc * 2 ^ 29 + 0b100101 * 2 ^ 23 + m.hw * 2 ^ 21 + m.imm16 * 2 ^ 5 + m.rd

-- 7 for an operation that is none of the three, 1 for a size that is none, 2 for a register above 30, 3 for a place or a halfword that is none
unfoldable pub wide_said : WideMove → Said (List ℕ)
wide_said m =
    cond (eqb m.opc 1 || ltb 3 m.opc) (no 7)
    (cond (ltb 1 m.sf) (no 1)
    (cond (ltb 30 m.rd) (no 2)
    (cond (leb (2 + 2 * m.sf) m.hw || ltb 65535 m.imm16) (no 3)
    (ok (composed m ∷ [])))))

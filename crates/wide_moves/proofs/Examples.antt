-- Worked values: the words are GNU as's. Assumes nothing.
use mathlib.Core.Path.{refl}
use mathlib.Core.List.{[], ◌∷◌}
use Prim.Native.Nat.{ℕ}
use Rattle.arm.specs.MoveWide.{decode}
use Rattle.arm.proofs.Worked.{Worked}
use Rattle.words.specs.Said.{ok, no}
use Rattle.wide_moves.specs.declared.WideMove.{WideMove}
use Rattle.wide_moves.specs.Wide.{wide_of, wide_said}
use Rattle.std.specs.Prelude.{None, Some}

abbrev wide : (sf opc hw imm16 rd : ℕ) → WideMove
wide sf opc hw imm16 rd = record { sf = sf; opc = opc; hw = hw; imm16 = imm16; rd = rd }

pub read :
    Worked
    ((wide_of (decode 0xD2824683), Some (wide 1 2 0 0x1234 3))  -- movz x3, #0x1234
    ∷ (wide_of (decode 0x12BFFFC0), Some (wide 0 0 1 0xFFFE 0))  -- movn w0, #0xfffe, lsl #16
    ∷ (wide_of (decode 0xF2E0003E), Some (wide 1 3 3 1 30))  -- movk x30, #1, lsl #48
    ∷ (wide_of (decode 0xD280001F), None)  -- movz xzr, #0
    ∷ (wide_of (decode 0x52C00000), None)  -- halfword 2 at size 32
    ∷ (wide_of (decode 0xB2800000), None)  -- opc 01
    ∷ (wide_of (decode 0xD503201F), None)  -- nop
    ∷ [])
unfolding decode
read = refl

pub written :
    Worked
    ((wide_said (wide 1 2 0 0x1234 3), ok (0xD2824683 ∷ []))
    ∷ (wide_said (wide 0 0 1 0xFFFE 0), ok (0x12BFFFC0 ∷ []))
    ∷ (wide_said (wide 1 3 3 1 30), ok (0xF2E0003E ∷ []))
    ∷ (wide_said (wide 2 1 4 0x10000 31), no 7)  -- the order of the refusals
    ∷ (wide_said (wide 2 4 4 0x10000 31), no 7)
    ∷ (wide_said (wide 2 3 4 0x10000 31), no 1)
    ∷ (wide_said (wide 1 3 4 0x10000 31), no 2)
    ∷ (wide_said (wide 1 3 4 0xFFFF 30), no 3)
    ∷ (wide_said (wide 0 3 2 0xFFFF 30), no 3)
    ∷ (wide_said (wide 1 3 3 0x10000 30), no 3)
    ∷ [])
unfolding wide_said
written = refl

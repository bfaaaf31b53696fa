-- The 64-bit offsets that A64 instructions take from their immediate fields: the decode lines of each. An offset is 64 bits, as a number; read
-- as signed it is a distance in bytes from the instruction, for ADRP from its page. Assumes nothing.
use Rattle.std.specs.Prelude.{ℕ, ◌+◌, ◌%◌, ◌^◌}
use Rattle.arm.specs.Bits.{bits, join, SignExtend}

-- B, BL: SignExtend(imm26 : '00', 64)
abbrev pub B : ℕ → ℕ
B w = SignExtend 28 (join 2 (bits 25 0 w) 0)

-- B.cond, CBZ, CBNZ: SignExtend(imm19 : '00', 64)
abbrev pub Bcond : ℕ → ℕ
Bcond w = SignExtend 21 (join 2 (bits 23 5 w) 0)

-- TBZ, TBNZ: SignExtend(imm14 : '00', 64)
abbrev pub TBZ : ℕ → ℕ
TBZ w = SignExtend 16 (join 2 (bits 18 5 w) 0)

-- ADR: SignExtend(immhi : immlo, 64)
abbrev pub ADR : ℕ → ℕ
ADR w = SignExtend 21 (join 2 (bits 23 5 w) (bits 30 29 w))

-- ADRP: SignExtend(immhi : immlo : Zeros(12), 64)
abbrev pub ADRP : ℕ → ℕ
ADRP w = SignExtend 33 (join 12 (join 2 (bits 23 5 w) (bits 30 29 w)) 0)

-- what ADRP leaves in its register, executed at the address pc: base = PC, base<11:0> = Zeros(12), base + imm
abbrev pub page_adrp : (pc w : ℕ) → ℕ
page_adrp pc w = (join 12 (bits 63 12 pc) 0 + ADRP w) % 2 ^ 64

-- LDR (literal): SignExtend(imm19 : '00', 64)
abbrev pub LDR : ℕ → ℕ
LDR w = SignExtend 21 (join 2 (bits 23 5 w) 0)

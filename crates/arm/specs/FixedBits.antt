-- The fixed bits of the instructions whose offsets Displacements.antt reads: the fields of each encoding diagram, from bit 31 down, and what the
-- fixed ones are. Assumes nothing.
use Rattle.std.specs.Prelude.{Bool, not, ◌&&◌, ℕ, eqb}
use Rattle.arm.specs.Bits.{bits}

-- B, BL: op, 00101, imm26
abbrev pub is_b : ℕ → Bool
is_b w = eqb (bits 30 26 w) 0b00101

-- B.cond: 0101010, 0, imm19, 0, cond; with 1 at bit 4 it is BC.cond, with 1 at bit 24 no branch
abbrev pub is_bcond : ℕ → Bool
is_bcond w = eqb (bits 31 25 w) 0b0101010 && eqb (bits 24 24 w) 0 && eqb (bits 4 4 w) 0

-- CBZ, CBNZ: sf, 011010, op, imm19, Rt
abbrev pub is_cbz : ℕ → Bool
is_cbz w = eqb (bits 30 25 w) 0b011010

-- TBZ, TBNZ: b5, 011011, op, b40, imm14, Rt
abbrev pub is_tbz : ℕ → Bool
is_tbz w = eqb (bits 30 25 w) 0b011011

-- ADR: 0, immlo, 10000, immhi, Rd
abbrev pub is_adr : ℕ → Bool
is_adr w = eqb (bits 31 31 w) 0 && eqb (bits 28 24 w) 0b10000

-- ADRP: 1, immlo, 10000, immhi, Rd
abbrev pub is_adrp : ℕ → Bool
is_adrp w = eqb (bits 31 31 w) 1 && eqb (bits 28 24 w) 0b10000

-- LDR, LDRSW, PRFM (literal) and LDR (literal, SIMD&FP): opc, 011, V, 00, imm19, Rt; opc 11 with V 1 is unallocated
abbrev pub is_ldr : ℕ → Bool
is_ldr w = eqb (bits 29 27 w) 0b011 && eqb (bits 25 24 w) 0b00 && not (eqb (bits 31 30 w) 0b11 && eqb (bits 26 26 w) 1)

-- AND, ORR, EOR and ANDS ("Logical (immediate)"): the fields of the word. Names in capitals, `sf`, `opc`, `immr`, `imms` and `datasize` are Arm's; a
-- word is a number. Assumes nothing.
use Rattle.std.specs.Prelude.{Bool, cond, not, ◌&&◌, ℕ, zero, suc, ◌+◌, ◌%◌, eqb, leb, ltb}
use Rattle.std.proofs.Math.Option.{Option, none, some}
use Rattle.arm.specs.Bits.{bits}
use Rattle.arm.specs.BitMasks.{len, esize}
use Rattle.arm.specs.MoveWide.{datasize}

pub data LogicalOp : Type 0 where
  AND : LogicalOp
  ORR : LogicalOp
  EOR : LogicalOp
  ANDS : LogicalOp

pub record Logical : Type 0 where
  pub sf : ℕ
  pub op : LogicalOp
  pub N : ℕ
  pub immr : ℕ
  pub imms : ℕ
  pub Rn : ℕ
  pub Rd : ℕ

-- opc: 00 AND, 01 ORR, 10 EOR, 11 ANDS
abbrev pub logical_op : ℕ → LogicalOp
logical_op zero = AND
logical_op (suc zero) = ORR
logical_op (suc (suc zero)) = EOR
logical_op (suc (suc (suc n))) = ANDS

-- `Legal` as a test, for fields of one, six and six bits: if sf == '0' && N != '0' then UNDEFINED; the other two are DecodeBitMasks'
unfoldable pub defined : ℕ → ℕ → ℕ → Bool
defined size n s = not (eqb size 32 && not (eqb n 0)) && leb 1 (len n s) && ltb (s % esize n s + 1) (esize n s)

-- sf 31, opc 30:29, 100100 at 28:23, N 22, immr 21:16, imms 15:10, Rn 9:5, Rd 4:0
unfoldable pub decode_logical : ℕ → Option Logical
decode_logical w =
    cond (eqb (bits 28 23 w) 0b100100 && defined (datasize (bits 31 31 w)) (bits 22 22 w) (bits 15 10 w))
    (some
    (record {
      sf = bits 31 31 w;
      op = logical_op (bits 30 29 w);
      N = bits 22 22 w;
      immr = bits 21 16 w;
      imms = bits 15 10 w;
      Rn = bits 9 5 w;
      Rd = bits 4 0 w;
    }))
    none

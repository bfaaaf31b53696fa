-- MOVN, MOVZ and MOVK ("Move wide (immediate)"), as an interpreter over registers 0 to 30. Names in capitals, `sf`, `opc`, `hw`, `imm16`,
-- `datasize` and `pos` are Arm's; a word and the content of a register are numbers. Assumes nothing.
use Rattle.std.specs.Prelude.{cond, not, ◌&&◌, List, [], ◌∷◌, ℕ, zero, suc, ◌+◌, ◌-◌, ◌*◌, ◌/◌, ◌%◌, ◌^◌, eqb, leb}
use Rattle.std.proofs.Math.Option.{Option, none, some, map}
use Rattle.arm.specs.Bits.{bits, Ones}

-- ---- the word

pub data Op : Type 0 where
  MOVN : Op
  MOVZ : Op
  MOVK : Op

pub record Wide : Type 0 where
  pub sf : ℕ
  pub op : Op
  pub hw : ℕ
  pub imm16 : ℕ
  pub Rd : ℕ

-- opc: 00 MOVN, 10 MOVZ, 11 MOVK; 01 is unallocated
abbrev pub op_of : ℕ → Option Op
op_of zero = some MOVN
op_of (suc zero) = none
op_of (suc (suc zero)) = some MOVZ
op_of (suc (suc (suc n))) = some MOVK

-- sf 31, opc 30:29, 100101 at 28:23, hw 22:21, imm16 20:5, Rd 4:0; if sf == '0' && hw<1> == '1' then UNDEFINED
unfoldable pub decode : ℕ → Option Wide
decode w =
    cond (eqb (bits 28 23 w) 0b100101 && not (eqb (bits 31 31 w) 0 && leb 2 (bits 22 21 w)))
    (map (λ op. record { sf = bits 31 31 w; op = op; hw = bits 22 21 w; imm16 = bits 20 5 w; Rd = bits 4 0 w }) (op_of (bits 30 29 w)))
    none

-- ---- the registers

-- the content of each register by its number; 31 is no register but the zero register
abbrev pub Regs : Type 0
Regs = ℕ → ℕ

-- register d at v, the others as they are
abbrev pub write : Regs → ℕ → ℕ → Regs
write R d v k = cond (eqb k d) v (R k)

-- datasize = if sf == '1' then 64 else 32
abbrev pub datasize : ℕ → ℕ
datasize sf = 32 * 2 ^ sf

-- x with x<pos+15:pos> = imm16
abbrev pub insert : ℕ → ℕ → ℕ → ℕ
insert x pos imm16 = x / 2 ^ (pos + 16) * 2 ^ (pos + 16) + imm16 * 2 ^ pos + x % 2 ^ pos

-- the result at the instruction's size: MOVK starts from the old content, the others from zeros; MOVN inverts
abbrev pub result : Op → ℕ → ℕ → ℕ → ℕ → ℕ
result MOVN size pos imm16 old = Ones size - insert 0 pos imm16
result MOVZ size pos imm16 old = insert 0 pos imm16
result MOVK size pos imm16 old = insert old pos imm16

-- pos = hw : '0000'. A 32-bit result is written with zeros above it; what goes to register 31 is dropped
unfoldable pub exec : Wide → Regs → Regs
exec m R =
    let size = datasize m.sf in
    cond (eqb m.Rd 31) R (write R m.Rd (result m.op size (16 * m.hw) m.imm16 (R m.Rd % 2 ^ size)))

-- one word more, where it is a wide move
abbrev pub then : Option Wide → (Wide → Option Regs) → Option Regs
then none f = none
then (some m) f = f m

-- one word after the other; none where a word is no wide move
unfoldable pub run : List ℕ → Regs → Option Regs
run [] R = some R
run (w ∷ ws) R = then (decode w) (λ m. run ws (exec m R))

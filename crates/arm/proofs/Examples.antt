-- Worked values of Arm's definitions, each table one computed test: words that GNU as gave for the instruction beside them, and document 01's
-- examples. Assumes nothing.
use mathlib.Core.Path.{refl}
use mathlib.Core.Bool.{true, false}
use mathlib.Core.List.{List, [], ◌∷◌}
use mathlib.Core.Option.{Option, none, some}
use Prim.Native.Nat.{ℕ, ◌+◌, ◌-◌, ◌^◌}
use native.Mathlib.Omega.{arith}
use Rattle.arm.specs.Bits.{Replicate}
use Rattle.arm.specs.BitMasks.{highest_set_bit, len, esize, Legal, wmask}
use Rattle.arm.specs.LogicalImmediate.{LogicalOp, AND, ORR, EOR, ANDS, Logical, defined, decode_logical}
use Rattle.arm.specs.MoveWide.{decode, Regs, exec, run}
use Rattle.arm.specs.Displacements.{B, Bcond, TBZ, ADR, ADRP, page_adrp, LDR}
use Rattle.arm.specs.FixedBits.{is_b, is_bcond, is_cbz, is_tbz, is_adr, is_adrp, is_ldr}
use Rattle.arm.specs.Immediates.{VFPExpandImm, byte_masks, ByteMask}
use Rattle.arm.proofs.Worked.{Worked}

-- ---- DecodeBitMasks: the immediates of AND

pub masks :
    Worked
    ((wmask 64 1 7 0, 0xFF)
    ∷ (wmask 64 0 60 0, 0x5555555555555555)
    ∷ (wmask 64 0 60 1, 0xAAAAAAAAAAAAAAAA)
    ∷ (wmask 64 0 60 5, 0xAAAAAAAAAAAAAAAA)
    ∷ (wmask 64 1 1 1, 0x8000000000000001)
    ∷ (wmask 64 0 39 12, 0x0FF00FF00FF00FF0)
    ∷ (wmask 64 0 50 3, 0xE0E0E0E0E0E0E0E0)
    ∷ (wmask 64 1 62 63, 0xFFFFFFFFFFFFFFFE)
    ∷ (wmask 64 0 15 24, 0x00FFFF0000FFFF00)
    ∷ (wmask 64 0 56 0, 0x1111111111111111)
    ∷ (wmask 64 0 58 0, 0x7777777777777777)
    ∷ (wmask 32 0 7 0, 0xFF)
    ∷ (wmask 32 0 1 1, 0x80000001)
    ∷ (wmask 32 0 30 0, 0x7FFFFFFF)
    ∷ (wmask 32 0 23 12, 0xFFF00FFF)
    ∷ (wmask 32 0 50 3, 0xE0E0E0E0)
    ∷ [])
unfolding wmask esize len highest_set_bit Replicate
masks = refl

-- what Arm leaves undefined: no length; S all ones, at the longest and the shortest element; N = 1 at width 32
module _ (w r : ℕ) where
  pub no_length : Legal w 0 62 r → ⊥
  unfolding len highest_set_bit
  no_length h = omega (arith, h.some_len)

  pub all_ones : Legal w 1 63 r → ⊥
  unfolding esize len highest_set_bit
  all_ones h = omega (arith, h.not-all)

  pub all_ones_of_two : Legal w 0 61 r → ⊥
  unfolding esize len highest_set_bit
  all_ones_of_two h = omega (arith, h.not-all)

  pub wide_at_32 : (s : ℕ) → Legal 32 1 s r → ⊥
  wide_at_32 s h = omega (arith, h.narrow refl)

-- ---- AND, ORR, EOR, ANDS, by their fields

abbrev logical : (sf : ℕ) → LogicalOp → (N immr imms Rn Rd : ℕ) → Option Logical
logical sf op N immr imms Rn Rd = some (record { sf = sf; op = op; N = N; immr = immr; imms = imms; Rn = Rn; Rd = Rd })

pub logicals :
    Worked
    ((decode_logical 0x92401C64, logical 1 AND 1 0 7 3 4)  -- and x4, x3, #0xff
    ∷ (decode_logical 0x12001C64, logical 0 AND 0 0 7 3 4)  -- and w4, w3, #0xff
    ∷ (decode_logical 0x927FF87F, logical 1 AND 1 63 62 3 31)  -- and sp, x3, #0xfffffffffffffffe
    ∷ (decode_logical 0x1203C822, logical 0 AND 0 3 50 1 2)  -- and w2, w1, #0xe0e0e0e0
    ∷ (decode_logical 0xB201F3C0, logical 1 ORR 0 1 60 30 0)  -- orr x0, x30, #0xaaaaaaaaaaaaaaaa
    ∷ (decode_logical 0x320107E7, logical 0 ORR 0 1 1 31 7)  -- orr w7, wzr, #0x80000001
    ∷ (decode_logical 0xD2410429, logical 1 EOR 1 1 1 1 9)  -- eor x9, x1, #0x8000000000000001
    ∷ (decode_logical 0x52007820, logical 0 EOR 0 0 30 1 0)  -- eor w0, w1, #0x7fffffff
    ∷ (decode_logical 0xF20C9C5F, logical 1 ANDS 0 12 39 2 31)  -- ands xzr, x2, #0xff00ff00ff00ff0
    ∷ (decode_logical 0x720C5CC5, logical 0 ANDS 0 12 23 6 5)  -- ands w5, w6, #0xfff00fff
    ∷ (decode_logical 0x12401C64, none)  -- N = 1 at 32 bits
    ∷ (decode_logical 0x9240FC64, none)  -- S all ones, of 64 bits
    ∷ (decode_logical 0x9200F464, none)  -- and of 2
    ∷ (decode_logical 0x9200F864, none)  -- no length
    ∷ (decode_logical 0xD28000A0, none)  -- movz x0, #5
    ∷ (decode_logical 0xAA020020, none)  -- orr x0, x1, x2
    ∷ [])
unfolding decode_logical defined esize len highest_set_bit
logicals = refl

-- ---- MOVN, MOVZ, MOVK, from registers that hold 1111222233334444 and their own number

abbrev old : Regs
old k = 0x1111222233334444 + k

-- what register k holds afterwards; 2 ^ 64, which no register can hold, where the run is undefined
abbrev content : Option Regs → ℕ → ℕ
content none k = 2 ^ 64
content (some R) k = R k

abbrev after : List ℕ → ℕ → ℕ
after ws k = content (run ws old) k

pub moves :
    Worked
    ((after (0x92800003 ∷ []) 3, 0xFFFFFFFFFFFFFFFF)  -- movn x3, #0
    ∷ (after (0x92800003 ∷ []) 4, 0x1111222233334448)
    ∷ (after (0xD28ACF00 ∷ 0xF2A24680 ∷ []) 0, 0x12345678)  -- movz x0, #0x5678; movk x0, #0x1234, lsl #16
    ∷ (after (0x12800021 ∷ []) 1, 0xFFFFFFFE)  -- movn w1, #1
    ∷ (after (0xD2E00020 ∷ []) 0, 0x1000000000000)  -- movz x0, #1, lsl #48
    ∷ (after (0xF2D579A5 ∷ []) 5, 0x1111ABCD33334449)  -- movk x5, #0xabcd, lsl #32
    ∷ (after (0x12A00002 ∷ []) 2, 0xFFFFFFFF)  -- movn w2, #0, lsl #16
    ∷ (after (0x52BFFFE7 ∷ []) 7, 0xFFFF0000)  -- movz w7, #0xffff, lsl #16
    ∷ (after (0x72824689 ∷ []) 9, 0x33331234)  -- movk w9, #0x1234: the upper half is cleared
    ∷ (after (0x92E24684 ∷ []) 4, 0xEDCBFFFFFFFFFFFF)  -- movn x4, #0x1234, lsl #48
    ∷ (after (0xD28000BF ∷ []) 30, 0x1111222233334462)  -- movz xzr, #5: nothing is written
    ∷ (after (0xD28000BF ∷ []) 31, 0x1111222233334463)
    ∷ (after (0xD503201F ∷ []) 0, 2 ^ 64)  -- nop is no wide move
    ∷ (after (0x52C00000 ∷ []) 0, 2 ^ 64)  -- hw = 2 at 32 bits
    ∷ (after (0xB2800000 ∷ []) 0, 2 ^ 64)  -- opc = 01
    ∷ [])
unfolding run decode exec
moves = refl

-- ---- displacements

pub displacements :
    Worked
    ((B 0x17FFFFFF, 2 ^ 64 - 4)  -- b.-4
    ∷ (B 0x15FFFFFF, 134217724)  -- b.+134217724
    ∷ (B 0x16000000, 2 ^ 64 - 134217728)  -- b.-134217728
    ∷ (B 0x94000002, 8)  -- bl.+8
    ∷ (Bcond 0x547FFFE0, 1048572)  -- b.eq.+1048572
    ∷ (Bcond 0x54800001, 2 ^ 64 - 1048576)  -- b.ne.-1048576
    ∷ (Bcond 0xB4000023, 4)  -- cbz x3, .+4
    ∷ (TBZ 0x361BFFE1, 32764)  -- tbz w1, #3, .+32764
    ∷ (TBZ 0xB71C0001, 2 ^ 64 - 32768)  -- tbnz x1, #35, .-32768
    ∷ (ADR 0x30000020, 5)  -- adr x0, .+5
    ∷ (ADR 0x10800001, 2 ^ 64 - 1048576)  -- adr x1, .-1048576
    ∷ (ADR 0x707FFFE2, 1048575)  -- adr x2, .+1048575
    ∷ (ADRP 0xB0000000, 4096)  -- adrp x0, the next page
    ∷ (ADRP 0x90800000, 2 ^ 64 - 4294967296)  -- the least page
    ∷ (page_adrp 0x1FFC 0xD0000000, 0x3000)  -- at 1FFC objdump reads adrp x0, 0x3000; and so below
    ∷ (page_adrp 0x1FF8 0xF0FFFFE1, 0)
    ∷ (page_adrp 0x1000 0xF07FFFE2, 0x100000000)
    ∷ (page_adrp 0x200000FFC 0x90800000, 0x100000000)
    ∷ (page_adrp 0xFFFFFFFFFFFFFFFC 0xB0000000, 0)  -- over the end of the addresses
    ∷ (LDR 0x58000040, 8)  -- ldr x0, .+8
    ∷ (LDR 0x18800005, 2 ^ 64 - 1048576)  -- ldr w5, .-1048576
    ∷ [])
displacements = refl

-- ---- the fixed bits: words that GNU as gave, and words that are one fixed bit away

pub fixed :
    Worked
    ((is_b 0x14000001, true)  -- b.+4
    ∷ (is_b 0x97FFFFFF, true)  -- bl.-4
    ∷ (is_b 0x54000000, false)  -- bits 30 to 26, each turned over
    ∷ (is_b 0x34000000, false)
    ∷ (is_b 0x04000000, false)
    ∷ (is_b 0x1C000000, false)
    ∷ (is_b 0x10000000, false)
    ∷ (is_bcond 0x54000040, true)  -- b.eq.+8
    ∷ (is_bcond 0x54FFFFCF, true)  -- b.nv.-8
    ∷ (is_bcond 0x54000051, false)  -- bc.ne.+8
    ∷ (is_bcond 0xD4000000, false)  -- bits 31 to 24 and bit 4
    ∷ (is_bcond 0x14000000, false)
    ∷ (is_bcond 0x74000000, false)
    ∷ (is_bcond 0x44000000, false)
    ∷ (is_bcond 0x5C000000, false)
    ∷ (is_bcond 0x50000000, false)
    ∷ (is_bcond 0x56000000, false)
    ∷ (is_bcond 0x55000000, false)
    ∷ (is_bcond 0x54000010, false)
    ∷ (is_cbz 0x34000020, true)  -- cbz w0, .+4
    ∷ (is_cbz 0xB5FFFFFE, true)  -- cbnz x30, .-4
    ∷ (is_cbz 0x74000000, false)  -- bits 30 to 25
    ∷ (is_cbz 0x14000000, false)
    ∷ (is_cbz 0x24000000, false)
    ∷ (is_cbz 0x3C000000, false)
    ∷ (is_cbz 0x30000000, false)
    ∷ (is_cbz 0x36000000, false)
    ∷ (is_tbz 0x361BFFE1, true)  -- tbz w1, #3, .+32764
    ∷ (is_tbz 0xB71C0001, true)  -- tbnz x1, #35, .-32768
    ∷ (is_tbz 0x76000000, false)  -- bits 30 to 25
    ∷ (is_tbz 0x16000000, false)
    ∷ (is_tbz 0x26000000, false)
    ∷ (is_tbz 0x3E000000, false)
    ∷ (is_tbz 0x32000000, false)
    ∷ (is_tbz 0x34000000, false)
    ∷ (is_adr 0x30000020, true)  -- adr x0, .+5
    ∷ (is_adr 0x70FFFFFF, true)  -- adr xzr, .-1
    ∷ (is_adr 0x90000000, false)  -- bit 31, bits 28 to 24
    ∷ (is_adr 0x00000000, false)
    ∷ (is_adr 0x18000000, false)
    ∷ (is_adr 0x14000000, false)
    ∷ (is_adr 0x12000000, false)
    ∷ (is_adr 0x11000000, false)
    ∷ (is_adrp 0xB0000007, true)  -- adrp x7, the next page
    ∷ (is_adrp 0xF0FFFFE0, true)  -- adrp x0, the page before
    ∷ (is_adrp 0x10000000, false)  -- bit 31, bits 28 to 24
    ∷ (is_adrp 0x80000000, false)
    ∷ (is_adrp 0x98000000, false)
    ∷ (is_adrp 0x94000000, false)
    ∷ (is_adrp 0x92000000, false)
    ∷ (is_adrp 0x91000000, false)
    ∷ (is_ldr 0x18000045, true)  -- ldr w5, .+8
    ∷ (is_ldr 0x58000040, true)  -- ldr x0, .+8
    ∷ (is_ldr 0x98FFFFC2, true)  -- ldrsw x2, .-8
    ∷ (is_ldr 0xD800009F, true)  -- prfm #31, .+16
    ∷ (is_ldr 0x1C000043, true)  -- ldr s3, .+8
    ∷ (is_ldr 0x5CFFFFC4, true)  -- ldr d4, .-8
    ∷ (is_ldr 0x9C00009F, true)  -- ldr q31, .+16
    ∷ (is_ldr 0xDC000000, false)  -- unallocated
    ∷ (is_ldr 0x78000000, false)  -- bits 29 to 27, bits 25 and 24
    ∷ (is_ldr 0x48000000, false)
    ∷ (is_ldr 0x50000000, false)
    ∷ (is_ldr 0x5A000000, false)
    ∷ (is_ldr 0x59000000, false)
    ∷ [])
fixed = refl

-- ---- VFPExpandImm: the immediates of FMOV

pub floats :
    Worked
    ((VFPExpandImm 16 112, 0x3C00)  -- 1.0
    ∷ (VFPExpandImm 16 191, 0xCFC0)  -- -31.0
    ∷ (VFPExpandImm 16 64, 0x3000)  -- 0.125
    ∷ (VFPExpandImm 32 112, 0x3F800000)  -- 1.0
    ∷ (VFPExpandImm 32 0, 0x40000000)  -- 2.0
    ∷ (VFPExpandImm 32 224, 0xBF000000)  -- -0.5
    ∷ (VFPExpandImm 32 63, 0x41F80000)  -- 31.0
    ∷ (VFPExpandImm 64 112, 0x3FF0000000000000)  -- 1.0
    ∷ (VFPExpandImm 64 191, 0xC03F000000000000)  -- -31.0
    ∷ (VFPExpandImm 64 64, 0x3FC0000000000000)  -- 0.125
    ∷ (VFPExpandImm 64 12, 0x400C000000000000)  -- 3.5
    ∷ (VFPExpandImm 64 128, 0xC000000000000000)  -- -2.0
    ∷ [])
unfolding VFPExpandImm Replicate
floats = refl

-- ---- the byte mask of AdvSIMDExpandImm: the immediates of MOVI at 64 bits

pub bytes :
    Worked
    ((ByteMask 0, 0)
    ∷ (ByteMask 129, 0xFF000000000000FF)  -- movi d0, #0xff000000000000ff: bits 7 and 0
    ∷ (ByteMask 1, 0x00000000000000FF)
    ∷ (ByteMask 64, 0x00FF000000000000)
    ∷ (ByteMask 0b10101010, 0xFF00FF00FF00FF00)
    ∷ (ByteMask 0b00001111, 0x00000000FFFFFFFF)
    ∷ (ByteMask 255, 0xFFFFFFFFFFFFFFFF)
    ∷ [])
unfolding byte_masks Replicate
bytes = refl

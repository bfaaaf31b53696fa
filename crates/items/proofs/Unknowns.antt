-- Words that are unknown though they look like a wide move or a logical immediate. Assumes nothing.
use mathlib.Core.Path.{◌≡◌, sym, ◌∙◌}
use Prim.Native.Nat.{ℕ, ◌+◌, ◌*◌, ◌%◌, ◌≤◌, ◌<◌}
use native.Mathlib.Omega.{arith}
use Rattle.arm.specs.Bits.{bits}
use Rattle.arm.specs.BitMasks.{Legal}
use Rattle.arm.specs.MoveWide.{decode, datasize}
use Rattle.wide_moves.specs.Wide.{wide_of}
use Rattle.wide_moves.proofs.Wides as wides
use Rattle.items.specs.declared.Item.TheVariants as item
use Rattle.items.specs.Items.{opc, item_of}
use Rattle.items.proofs.Forms.{form_none}
use Rattle.items.proofs.Logicals.{other_group, no_mask}
use Rattle.items.proofs.Cases.{itemed_other}
use Rattle.std.specs.Prelude.{None}

-- a logical immediate whose fields Arm leaves undefined; N = 1 at width 32 among them
pub unknown_mask : (w : ℕ) → bits 28 23 w ≡ 0b100100 → (Legal (datasize (bits 31 31 w)) (bits 22 22 w) (bits 15 10 w) (bits 21 16 w) → ⊥)
    → item_of w ≡ item.Unknown (opc w)
unknown_mask w g h =
    let six = form_none w (omega arith) in
    sym (itemed_other w (wides.other_group w (λ k. omega arith))) ∙ no_mask w g h ∙ rw (← six)

module _ (w : ℕ) (g : bits 28 23 w ≡ 0b100101) where
  unknown_move : None ≡ wide_of (decode w) → item_of w ≡ item.Unknown (opc w)
  unknown_move e =
      let six = form_none w (omega arith) in
      sym (itemed_other w e) ∙ other_group w (λ k. omega arith) ∙ rw (← six)

  -- "a wide move to register 31 is unknown"
  pub unknown_31 : bits 22 21 w < 2 + 2 * bits 31 31 w → (bits 30 29 w ≡ 1 → ⊥) → w % 32 ≡ 31 → item_of w ≡ item.Unknown (opc w)
  unknown_31 h n r = unknown_move (wides.read_31 w g h n r)

  -- at size 32 with halfword 2 or 3
  pub unknown_size : 2 + 2 * bits 31 31 w ≤ bits 22 21 w → item_of w ≡ item.Unknown (opc w)
  unknown_size h = unknown_move (wides.past_size w h)

  -- opc 01
  pub unknown_opc : bits 30 29 w ≡ 1 → item_of w ≡ item.Unknown (opc w)
  unknown_opc h = unknown_move (wides.no_opc w h)

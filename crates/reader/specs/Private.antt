-- What only the contracts of private functions cite. Assumes nothing.
use Rattle.std.specs.Prelude.{◌≡◌, cond, List, ℕ, ◌-◌, ◌*◌, ◌<◌, eqb, length, get_or, None, Option}
use Rattle.arm.specs.Bits.{Ones}
use Rattle.arm.specs.MoveWide.{datasize, insert}
use Rattle.wide_moves.specs.declared.WideMove.{WideMove}
use Rattle.items.specs.Items.{item_of}
use Rattle.items.specs.declared.Item.TheVariants as item
use Rattle.reader.specs.Found.{keeps}

-- a MOVZ or a MOVN stands at a position
pub record FirstAt (ws : List ℕ) (at : ℕ) (m : WideMove) : Type 0 where
  pub inside : at < length ws
  pub read : item.Wide m ≡ item_of (get_or ws at 0)
  pub first : m.opc ≡ 3 → ⊥

-- what it leaves
abbrev pub first_of : WideMove → ℕ
first_of m = cond (eqb m.opc 2) (insert 0 (16 * m.hw) m.imm16) (Ones (datasize m.sf) - insert 0 (16 * m.hw) m.imm16)

-- what is read of a word, if it is a MOVK at a size and a register
abbrev pub kept_of : ℕ → ℕ → Option WideMove → Option WideMove
kept_of sf rd m = cond (keeps sf rd m) m None

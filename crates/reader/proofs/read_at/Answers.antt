-- Goals of `reader::read_at`. Assumes nothing.
use mathlib.Core.Path.{sym, ap, ◌∙◌}
use native.Mathlib.Omega.{arith}
use Rattle.std.specs.Prelude.{Ok}
use Rattle.reader.proofs.Finds.{first, lone, other}
use Rattle.reader.proofs.read_at.Goals.{in_default-via-in-Wide+else-m-ne3, in_default-via-in_default}
use Rattle.reader.proofs.read_at.Goals as goal

pub returns-in-Wide : goal.returns-in-Wide
returns-in-Wide c = ap Ok c.join.ensures ∙ first _ _ (omega arith) c.in-Wide.ensures c.if-m-ne3.true

pub returns-in_default : goal.returns-in_default
returns-in_default c =
    elim c.in_default.branch [
      | in_default-via-in-Wide+else-m-ne3 w ↦
          rw c.from_to.ensures (lone _ _ (omega arith) (w.item-is ∙ w.in-Wide.ensures) w.item-is w.if-m-ne3.false)
      | in_default-via-in_default w ↦
          rw c.from_to.ensures (other _ _ (omega arith) _ (w.item-is ∙ c.read_word-item.ensures) (λ m e. w.in_default.not-Wide m (sym w.item-is ∙ e)))
    ]

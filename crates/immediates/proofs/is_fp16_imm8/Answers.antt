-- The answer of `immediates::is_fp16_imm8`. Assumes nothing.
use Rattle.arm.specs.Immediates.{VFPExpandImm}
use Rattle.immediates.proofs.Laws.{tested}
use Rattle.immediates.proofs.is_fp16_imm8.Goals as goal

pub returns : goal.returns
unfolding VFPExpandImm
returns c = rw c.is_ok.ensures.value (tested _ _ _ (rw c.from.ensures at c.encode_fp.ensures))

-- The answer of `immediates::is_byte_mask_imm`. Assumes nothing.
use Rattle.immediates.proofs.Laws.{tested}
use Rattle.immediates.proofs.is_byte_mask_imm.Goals as goal

pub returns : goal.returns
returns c = rw c.is_ok.ensures.value (tested _ _ _ c.encode_imm64_byte_mask_to_imm8.ensures)

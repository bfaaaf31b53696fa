-- The answers of `immediates::encode_imm64_byte_mask_to_imm8`. Assumes nothing.
use Rattle.arm.proofs.Expand.{read_few}
use Rattle.immediates.proofs.Laws.{mask}
use Rattle.immediates.proofs.encode_imm64_byte_mask_to_imm8.Goals as goal

pub settle-requires : goal.settle-requires
settle-requires c = rw c.read_byte_mask-b.ensures (read_few 8 _)

pub returns : goal.returns
returns c = rw (c.settle.ensures, c.expand_byte_mask.ensures, c.read_byte_mask-b.ensures) (mask c.args.imm)

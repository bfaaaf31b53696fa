-- The contracts of the decoder and the normaliser allow one answer each. Assumes nothing.
use Rattle.words.specs.Answer.{said}
use Rattle.words.proofs.Answers.{said_all}
use Rattle.words.proofs.Contracts.{OneAnswer}
use Rattle.logical_decoder.proofs.Laws.{decoded_one, normal_one}
use Rattle.logical_decoder.proofs.decode_logical_imm.Reads as decode_logical_imm
use Rattle.logical_decoder.proofs.normalise.Reads as normalise

pub decode_logical_imm_determined : OneAnswer decode_logical_imm.Post
decode_logical_imm_determined k a r s x y p q = said_all r s (decoded_one _ _ _ _ (said r) (said s) p q)

pub normalise_determined : OneAnswer normalise.Post
normalise_determined k a r s x y p q = said_all r s (normal_one _ _ _ _ (said r) (said s) p q)

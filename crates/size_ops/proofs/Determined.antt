-- `element_type_to_size_op`'s contract allows one answer: it is an equation of what is said, and that is all of the answer. Assumes nothing.
use Rattle.words.proofs.Answers.{said_all}
use Rattle.words.proofs.Contracts.{OneAnswer, one_answer}
use Rattle.size_ops.proofs.element_type_to_size_op.Reads as element_type_to_size_op

pub element_type_to_size_op_determined : OneAnswer element_type_to_size_op.Post
element_type_to_size_op_determined k a r s x y p q = said_all r s (one_answer p q)

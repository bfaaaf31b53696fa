-- Each public entry's contract allows one answer. Assumes nothing.
use Rattle.words.proofs.Answers.{said_all}
use Rattle.words.proofs.Contracts.{OneAnswer, one_answer}
use Rattle.registers.proofs.check_gp_id.Reads as check_gp_id
use Rattle.registers.proofs.check_gp_id2.Reads as check_gp_id2
use Rattle.registers.proofs.check_gp_id3.Reads as check_gp_id3
use Rattle.registers.proofs.check_vec_id.Reads as check_vec_id
use Rattle.registers.proofs.check_vec_id2.Reads as check_vec_id2
use Rattle.registers.proofs.check_vec_id3.Reads as check_vec_id3
use Rattle.registers.proofs.cond_code_to_opcode_field.Reads as cond_code_to_opcode_field
use Rattle.registers.proofs.shift_op_to_ld_st_op.Reads as shift_op_to_ld_st_op

pub check_gp_id_determined : OneAnswer check_gp_id.Post
check_gp_id_determined k a r s x y p q = one_answer p q

pub check_gp_id2_determined : OneAnswer check_gp_id2.Post
check_gp_id2_determined k a r s x y p q = one_answer p q

pub check_gp_id3_determined : OneAnswer check_gp_id3.Post
check_gp_id3_determined k a r s x y p q = one_answer p q

pub check_vec_id_determined : OneAnswer check_vec_id.Post
check_vec_id_determined k a r s x y p q = one_answer p q

pub check_vec_id2_determined : OneAnswer check_vec_id2.Post
check_vec_id2_determined k a r s x y p q = one_answer p q

pub check_vec_id3_determined : OneAnswer check_vec_id3.Post
check_vec_id3_determined k a r s x y p q = one_answer p q

pub cond_code_to_opcode_field_determined : OneAnswer cond_code_to_opcode_field.Post
cond_code_to_opcode_field_determined k a r s x y p q = one_answer p q

pub shift_op_to_ld_st_op_determined : OneAnswer shift_op_to_ld_st_op.Post
shift_op_to_ld_st_op_determined k a r s x y p q = said_all r s (one_answer p q)

-- Each entry's contract allows one answer. Assumes nothing.
use mathlib.Core.Path.{◌≡◌, sym, ap, ◌∙◌}
use Prim.Native.Nat.{ℕ}
use lib.IntN.{ℤ}
use Rattle.words.specs.Said.{Said}
use Rattle.words.proofs.Contracts.{OneAnswer, one_answer}
use Rattle.immediates.specs.Says.{FloatSays, MaskSays}
use Rattle.immediates.proofs.Determined.{one_float, one_mask}
use Rattle.host.specs.Number.{told, yes_no}
use Rattle.host_values.specs.Values.{natural, TestSays, Tells}
use Rattle.host_values.proofs.Laws.{one_width}
use Rattle.host_values.proofs.vaimalofo_count_zero_half_words.Reads as count_zero_half_words
use Rattle.host_values.proofs.vaimalofo_float_imm8.Reads as float_imm8
use Rattle.host_values.proofs.vaimalofo_is_float_imm8.Reads as is_float_imm8
use Rattle.host_values.proofs.vaimalofo_byte_mask_imm8.Reads as byte_mask_imm8
use Rattle.host_values.proofs.vaimalofo_check_gp_id.Reads as check_gp_id
use Rattle.host_values.proofs.vaimalofo_check_vec_id.Reads as check_vec_id
use Rattle.host_values.proofs.vaimalofo_cond_field.Reads as cond_field

-- a promise that allows one answer has one number
one_told : {A : Type 0} (Says : Said A → Type 0) (value : Said A → Said ℤ) → ((a b : Said A) → Says a → Says b → a ≡ b)
    → {r s : ℕ} → Tells Says value r → Tells Says value s → r ≡ s
one_told {A} Says value one p q = p.2 ∙ ap (λ (a : Said A). told (value a)) (one p.0 q.0 p.1 q.1) ∙ sym q.2

pub count_zero_half_words_determined : OneAnswer count_zero_half_words.Post
count_zero_half_words_determined k a r s x y p q = one_answer p q

pub float_imm8_determined : OneAnswer float_imm8.Post
float_imm8_determined k a r s x y p q = one_told (FloatSays a.1.0 a.0) natural (one_float a.1.0 a.0) p q

pub is_float_imm8_determined : OneAnswer is_float_imm8.Post
is_float_imm8_determined k a r s x y p q = one_told (TestSays a.1.0 a.0) yes_no (one_width a.1.0 a.0) p q

pub byte_mask_imm8_determined : OneAnswer byte_mask_imm8.Post
byte_mask_imm8_determined k a r s x y p q = one_told (MaskSays a.0) natural (one_mask a.0) p q

pub check_gp_id_determined : OneAnswer check_gp_id.Post
check_gp_id_determined k a r s x y p q = one_answer p q

pub check_vec_id_determined : OneAnswer check_vec_id.Post
check_vec_id_determined k a r s x y p q = one_answer p q

pub cond_field_determined : OneAnswer cond_field.Post
cond_field_determined k a r s x y p q = one_answer p q

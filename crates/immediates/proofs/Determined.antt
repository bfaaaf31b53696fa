-- Each public entry's contract allows one answer. Assumes nothing.
use mathlib.Core.Path.{◌≡◌, refl}
use mathlib.Core.Bool.{Bool, true, false}
use mathlib.Core.Logic.{inl, inr, ⊎_elim}
use Prim.Native.Nat.{ℕ, ◌%◌, ◌^◌}
use Rattle.arm.specs.Immediates.{VFPExpandImm, ByteMask}
use Rattle.arm.specs.Imm8.{read_float, read_mask}
use Rattle.arm.proofs.Expand.{back16, back32, back64, mask_back}
use Rattle.words.specs.Said.{Said}
use Rattle.words.proofs.Answers.{said_all}
use Rattle.words.proofs.Contracts.{OneAnswer, one_answer}
use Rattle.immediates.specs.Says.{FloatSays, MaskSays, Tests}
use Rattle.immediates.proofs.Laws.{one_said}
use Rattle.words.specs.Answer.{said}
use Rattle.immediates.proofs.encode_fp_to_imm8.Reads as encode_fp_to_imm8
use Rattle.immediates.proofs.encode_imm64_byte_mask_to_imm8.Reads as encode_imm64_byte_mask_to_imm8
use Rattle.immediates.proofs.is_fp16_imm8.Reads as is_fp16_imm8
use Rattle.immediates.proofs.is_fp32_imm8.Reads as is_fp32_imm8
use Rattle.immediates.proofs.is_fp64_imm8.Reads as is_fp64_imm8
use Rattle.immediates.proofs.is_byte_mask_imm.Reads as is_byte_mask_imm

pub one_float : (N v : ℕ) (a a' : Said ℕ) → FloatSays N v a → FloatSays N v a' → a ≡ a'
unfolding FloatSays
one_float N v a a' (inl s) (inl t) =
    ⊎_elim
    (λ (e : N ≡ 16). one_said (VFPExpandImm N) (read_float 5 10) (rw e back16) (v % 2 ^ N) a a' s.1 t.1)
    (⊎_elim
    (λ (e : N ≡ 32). one_said (VFPExpandImm N) (read_float 8 23) (rw e back32) (v % 2 ^ N) a a' s.1 t.1)
    (λ (e : N ≡ 64). one_said (VFPExpandImm N) (read_float 11 52) (rw e back64) (v % 2 ^ N) a a' s.1 t.1))
    s.0
one_float N v a a' (inl s) (inr t) = absurd (t.0 s.0)
one_float N v a a' (inr s) (inl t) = absurd (s.0 t.0)
one_float N v a a' (inr s) (inr t) = one_answer s.1 t.1

pub one_mask : (v : ℕ) (a a' : Said ℕ) → MaskSays v a → MaskSays v a' → a ≡ a'
one_mask = one_said ByteMask (read_mask 8) (mask_back 8)

pub one_test : (f : ℕ → ℕ) (x : ℕ) (r s : Bool) → Tests f x r → Tests f x s → r ≡ s
unfolding Tests
one_test f x true true p q = refl
one_test f x true false p q = absurd (q p.0 p.1 p.2)
one_test f x false true p q = absurd (p q.0 q.1 q.2)
one_test f x false false p q = refl

pub encode_fp_to_imm8_determined : OneAnswer encode_fp_to_imm8.Post
encode_fp_to_imm8_determined k a r s x y p q = said_all r s (one_float a.1.0 a.0 (said r) (said s) p q)

pub encode_imm64_byte_mask_to_imm8_determined : OneAnswer encode_imm64_byte_mask_to_imm8.Post
encode_imm64_byte_mask_to_imm8_determined k a r s x y p q = said_all r s (one_mask a.0 (said r) (said s) p q)

pub is_fp16_imm8_determined : OneAnswer is_fp16_imm8.Post
is_fp16_imm8_determined k a r s x y p q = one_test (VFPExpandImm 16) (a.0 % 2 ^ 16) r s p q

pub is_fp32_imm8_determined : OneAnswer is_fp32_imm8.Post
is_fp32_imm8_determined k a r s x y p q = one_test (VFPExpandImm 32) a.0 r s p q

pub is_fp64_imm8_determined : OneAnswer is_fp64_imm8.Post
is_fp64_imm8_determined k a r s x y p q = one_test (VFPExpandImm 64) a.0 r s p q

pub is_byte_mask_imm_determined : OneAnswer is_byte_mask_imm.Post
is_byte_mask_imm_determined k a r s x y p q = one_test ByteMask a.0 r s p q

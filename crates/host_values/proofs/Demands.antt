-- What a host reads from each entry's answer, by the entry's own contract. Assumes nothing.
use mathlib.Core.Path.{◌≡◌, refl, sym, subst, subst⁻¹, ◌∙◌}
use mathlib.Core.Bool.{Bool, true, false, or-true}
use mathlib.Core.Logic.{◌⊎◌, inl, inr, ⊎_elim}
use Prim.Native.Nat.{ℕ, ◌+◌, ◌*◌, ◌%◌, ◌^◌, ◌≤◌, ◌<◌}
use native.Mathlib.Omega.{arith}
use borrow.Author.Tests.{lt-ltb, le-ltb, eq-eqb, ne_eqb, eqb-true}
use contract.Lifetimes.{Lfts}
use lib.Dec.{eqb}
use lib.IntN.{ℤ, pos}
use Rattle.arm.specs.Immediates.{ByteMask}
use Rattle.arm.proofs.Bytes.{byte_at, bit_at, Whole}
use Rattle.words.specs.Said.{Said, ok, no}
use Rattle.words.specs.declared.Refusal.TheVariants.{Width, NoField}
use Rattle.words.proofs.Answers.{number_fits}
use Rattle.halfwords.specs.Halfwords.{count}
use Rattle.registers.specs.Checks.{gp_ok, vec_ok, cond_field}
use Rattle.immediates.specs.Says.{IsFloatWidth, FloatSays, MaskSays}
use Rattle.immediates.specs.Steps.{is_ok}
use Rattle.immediates.proofs.Demands.{Float, float_answer, float_accepted, float_none, float_numbers, width_none, mask_answer, mask_bits, mask_whole, mask_accepted, mask_refused, float_test}
use Rattle.host.specs.Number.{told, refusal_in, value_in, Reads, yes_no}
use Rattle.host.proofs.Reading.{Small, told_reads}
use Rattle.host_values.specs.Values.{natural, TestSays}
use Rattle.host_values.proofs.Laws.{count_four}
use Rattle.host_values.proofs.vaimalofo_count_zero_half_words.Reads as count_zero_half_words
use Rattle.host_values.proofs.vaimalofo_float_imm8.Reads as float_imm8
use Rattle.host_values.proofs.vaimalofo_is_float_imm8.Reads as is_float_imm8
use Rattle.host_values.proofs.vaimalofo_byte_mask_imm8.Reads as byte_mask_imm8
use Rattle.host_values.proofs.vaimalofo_check_gp_id.Reads as check_gp_id
use Rattle.host_values.proofs.vaimalofo_check_vec_id.Reads as check_vec_id
use Rattle.host_values.proofs.vaimalofo_cond_field.Reads as cond_field

-- ---- the values have a byte

reads : (a : Said ℤ) → Small a → (n : ℕ) → n ≡ told a → Reads n a
reads a h n e = subst⁻¹ (λ (m : ℕ). Reads m a) e (told_reads a h)

float_small : (N v : ℕ) (a : Said ℕ) → FloatSays N v a → Small (natural a)
float_small N v (ok b) s = omega (arith, (float_answer N v b s).1.0)
float_small N v (no n) s = ⊎_elim (λ (e : n ≡ 1). (Width, sym e)) (λ (e : n ≡ 3). (NoField, sym e)) (float_numbers N v n s)

mask_small : (v : ℕ) (a : Said ℕ) → MaskSays v a → Small (natural a)
mask_small v (ok b) s = omega (arith, (mask_answer v b s).0)
mask_small v (no n) s = (NoField, sym (mask_refused v n s))

yes_small : (b : Bool) → Small (yes_no (ok b))
yes_small true = omega arith
yes_small false = omega arith

test_small : (N v : ℕ) (a : Said Bool) → TestSays N v a → Small (yes_no a)
test_small N v (ok b) s = yes_small b
test_small N v (no n) s = (Width, sym s.1)

-- no refusal is read exactly where there was none
given : (a : Said ℕ) (n : ℕ) → Reads n (natural a) → eqb (refusal_in n) 0 ≡ is_ok a
given (ok b) n r = eq-eqb (refusal_in n) 0 r.0
given (no m) n r = ne_eqb (refusal_in n) 0 (λ z. omega (arith, (number_fits r.0).0, r.1))

-- then the value is what was said
value : (a : Said ℕ) (n : ℕ) → Reads n (natural a) → refusal_in n ≡ 0 → (b : ℕ) × (a ≡ ok b) × (value_in n ≡ pos b)
value (ok b) n r z = (b, refl, r.1)
value (no m) n r z = absurd (omega (arith, (number_fits r.0).0, r.1))

module _ (k : Lfts 0) (answer : ℕ) where
  pub count_zero_half_words_read : (v : ℕ) → count_zero_half_words.Post k (v, tt) answer (v, tt) → Reads answer (ok (pos (count 0 v)))
  count_zero_half_words_read v p = reads (ok (pos (count 0 v))) (omega (arith, count_four 0 v)) answer p

  -- ---- floats

  module _ (v width : ℕ) (p : float_imm8.Post k (v, (width, tt)) answer (v, (width, tt))) where
    pub float_imm8_read : Reads answer (natural p.0)
    float_imm8_read = reads (natural p.0) (float_small width v p.0 p.1) answer p.2

    -- without a refusal the value is an 8-bit float that expands to the low bits asked for
    pub float_imm8_expands : refusal_in answer ≡ 0 → (b : ℕ) × (value_in answer ≡ pos b) × IsFloatWidth width × Float width v b
    float_imm8_expands z =
        let s = value p.0 answer float_imm8_read z in
        let f = float_answer width v s.0 (subst (FloatSays width v) s.1 p.1) in
        (s.0, s.2, f.0, f.1)

    -- and every one that does is given
    pub float_imm8_accepted : (b : ℕ) → IsFloatWidth width → Float width v b → Reads answer (ok (pos b))
    float_imm8_accepted b w f = subst (λ (a : Said ℕ). Reads answer (natural a)) (float_accepted width v b p.0 w f p.1) float_imm8_read

    -- 3 where there is none, 1 at another width
    pub float_imm8_3 : IsFloatWidth width → ((b : ℕ) → Float width v b → ⊥) → Reads answer (no 3)
    float_imm8_3 w h = subst (λ (a : Said ℕ). Reads answer (natural a)) (float_none width v p.0 w h p.1) float_imm8_read

    pub float_imm8_1 : (IsFloatWidth width → ⊥) → Reads answer (no 1)
    float_imm8_1 h = subst (λ (a : Said ℕ). Reads answer (natural a)) (width_none width v p.0 h p.1) float_imm8_read

  module _ (v width : ℕ) (p : is_float_imm8.Post k (v, (width, tt)) answer (v, (width, tt))) where
    pub is_float_imm8_read : Reads answer (yes_no p.0)
    is_float_imm8_read = reads (yes_no p.0) (test_small width v p.0 p.1) answer p.2

    -- 1 exactly where the encoder, asked the same, refuses nothing
    pub is_float_imm8_tests : (other : ℕ) → float_imm8.Post k (v, (width, tt)) other (v, (width, tt)) → IsFloatWidth width
        → Reads answer (yes_no (ok (eqb (refusal_in other) 0)))
    is_float_imm8_tests other q w = go p.0 p.1 is_float_imm8_read
      where
        refuses : Reads other (natural q.0)
        refuses = reads (natural q.0) (float_small width v q.0 q.1) other q.2

        go : (a : Said Bool) → TestSays width v a → Reads answer (yes_no a) → Reads answer (yes_no (ok (eqb (refusal_in other) 0)))
        go (ok t) s r = subst (λ (b : Bool). Reads answer (yes_no (ok b))) (float_test width v t q.0 w s.1 q.1 ∙ sym (given q.0 other refuses)) r
        go (no n) s r = absurd (s.0 w)

    pub is_float_imm8_1 : (IsFloatWidth width → ⊥) → Reads answer (no 1)
    is_float_imm8_1 h = go p.0 p.1 is_float_imm8_read
      where
        go : (a : Said Bool) → TestSays width v a → Reads answer (yes_no a) → Reads answer (no 1)
        go (ok t) s r = absurd (h s.0)
        go (no n) s r = subst (λ (m : ℕ). Reads answer (no m)) s.1 r

  -- ---- byte masks

  module _ (v : ℕ) (p : byte_mask_imm8.Post k (v, tt) answer (v, tt)) where
    pub byte_mask_imm8_read : Reads answer (natural p.0)
    byte_mask_imm8_read = reads (natural p.0) (mask_small v p.0 p.1) answer p.2

    -- without a refusal the value expands to what was asked for, byte i from bit i
    pub byte_mask_imm8_expands : refusal_in answer ≡ 0
        → (b : ℕ) × (value_in answer ≡ pos b) × (b < 256) × (ByteMask b ≡ v) × ((i : ℕ) → i < 8 → byte_at i v ≡ bit_at i b * 255)
    byte_mask_imm8_expands z =
        let s = value p.0 answer byte_mask_imm8_read z in
        let f = subst (MaskSays v) s.1 p.1 in
        let m = mask_answer v s.0 f in
        (s.0, s.2, m.0, m.1, mask_bits v s.0 f)

    -- every value of whole bytes is accepted; any other is refused by 3
    pub byte_mask_imm8_accepted : v < 2 ^ 64 → ((i : ℕ) → i < 8 → Whole (byte_at i v)) → refusal_in answer ≡ 0
    byte_mask_imm8_accepted l h = eqb-true (refusal_in answer) 0 (given p.0 answer byte_mask_imm8_read ∙ mask_accepted v p.0 l h p.1)

    pub byte_mask_imm8_3 : (((i : ℕ) → i < 8 → Whole (byte_at i v)) → ⊥) → Reads answer (no 3)
    byte_mask_imm8_3 h = go p.0 p.1 byte_mask_imm8_read
      where
        go : (a : Said ℕ) → MaskSays v a → Reads answer (natural a) → Reads answer (no 3)
        go (ok b) s r = absurd (h (mask_whole v b s))
        go (no n) s r = subst (λ (m : ℕ). Reads answer (no m)) (mask_refused v n s) r

  -- ---- registers

  module _ (id high : ℕ) (p : check_gp_id.Post k (id, (high, tt)) answer (id, (high, tt))) where
    pub check_gp_id_read : Reads answer (yes_no (ok (gp_ok id high)))
    check_gp_id_read = reads (yes_no (ok (gp_ok id high))) (yes_small (gp_ok id high)) answer p

    -- "below 31 or equal to the named high id"
    pub check_gp_id_yes : (id < 31) ⊎ (id ≡ high) → Reads answer (ok (pos 1))
    check_gp_id_yes (inl l) = rw (lt-ltb id 31 l) at check_gp_id_read
    check_gp_id_yes (inr e) = rw (eq-eqb id high e, or-true) at check_gp_id_read

    pub check_gp_id_no : 31 ≤ id → (id ≡ high → ⊥) → Reads answer (ok (pos 0))
    check_gp_id_no l n = rw (le-ltb id 31 l, ne_eqb id high n) at check_gp_id_read

  module _ (id : ℕ) (p : check_vec_id.Post k (id, tt) answer (id, tt)) where
    pub check_vec_id_read : Reads answer (yes_no (ok (vec_ok id)))
    check_vec_id_read = reads (yes_no (ok (vec_ok id))) (yes_small (vec_ok id)) answer p

    -- "vectors: below 32"
    pub check_vec_id_yes : id < 32 → Reads answer (ok (pos 1))
    check_vec_id_yes l = rw (lt-ltb id 32 l) at check_vec_id_read

    pub check_vec_id_no : 32 ≤ id → Reads answer (ok (pos 0))
    check_vec_id_no l = rw (le-ltb id 32 l) at check_vec_id_read

  module _ (c : ℕ) (p : cond_field.Post k (c, tt) answer (c, tt)) where
    pub cond_field_read : Reads answer (ok (pos (cond_field c)))
    cond_field_read = reads (ok (pos (cond_field c))) (omega arith) answer p

    -- "(cond - 2) mod 16": four bits, and 2 more than them is the number, modulo 16
    pub cond_field_is : (n : ℕ) × (value_in answer ≡ pos n) × (n < 16) × ((n + 2) % 16 ≡ c % 16)
    cond_field_is = (cond_field c, cond_field_read.1, omega arith, omega arith)

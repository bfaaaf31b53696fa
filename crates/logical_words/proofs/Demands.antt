-- What is asked of the logical word: decoded by Arm, it is the operation on the value that was asked. Assumes nothing.
use mathlib.Core.Path.{◌≡◌, refl, ap, ◌∙◌, subst}
use mathlib.Core.List.{[], ◌∷◌}
use Prim.Native.Nat.{ℕ, zero, suc, ◌/◌, ◌≤◌}
use native.Mathlib.Omega.{arith}
use lib.ListN.{get_or}
use Rattle.arm.specs.LogicalImmediate.{AND, logical_op, decode_logical}
use Rattle.arm.specs.MoveWide.{datasize}
use Rattle.arm.proofs.Lengths.{at_widths}
use Rattle.arm.proofs.Logical.{decoded}
use Rattle.words.specs.Said.{Said, ok}
use Rattle.logical.specs.Answer.{Encoded}
use Rattle.logical.specs.declared.LogicalImm.{LogicalImm}
use Rattle.logical_words.specs.Word.{word_of}
use Rattle.logical_words.specs.Meaning.{operations, Means}
use Rattle.logical_words.proofs.Word.{word_made, word_spelled}

-- document 01's numbers of the operations are Arm's opc
opc_is : (operation : ℕ) → operation ≤ 3 → logical_op operation ≡ get_or operations operation AND
opc_is zero h = refl
opc_is (suc zero) h = refl
opc_is (suc (suc zero)) h = refl
opc_is (suc (suc (suc zero))) h = refl
opc_is (suc (suc (suc (suc k)))) h = absurd (omega arith)

pub word_means : (operation v w rn rd x : ℕ) (a : Said LogicalImm) → Encoded w v a → word_of operation w rn rd a ≡ ok (x ∷ []) → Means x operation v w rn rd
word_means operation v w rn rd x a h q =
    let m = word_made operation w rn rd x a q in
    let e : Encoded w v (ok m.f) = subst (λ (b : Said LogicalImm). Encoded w v b) m.given h in
    let size : datasize (w / 64) ≡ w = at_widths (λ (k : ℕ). datasize (k / 64) ≡ k) refl refl w e.0 in
    let sf : w / 64 ≤ 1 = at_widths (λ (k : ℕ). k / 64 ≤ 1) (omega arith) (omega arith) w e.0 in
    record {
      word = record { sf = w / 64; op = logical_op operation; N = m.f.n; immr = m.f.r; imms = m.f.s; Rn = rn; Rd = rd };
      decoded =
          ap decode_logical (m.word ∙ word_spelled operation w rn rd m.f m.known e.0)
          ∙ decoded (w / 64) operation m.f.n m.f.r m.f.s rn rd (omega arith) (omega (arith, m.known)) (rw size e.1.legal)
          (omega (arith, m.rn_low)) (omega (arith, m.rd_low));
      op = opc_is operation m.known;
      size = size;
      imm = e.1;
      Rn = refl;
      Rd = refl;
    }

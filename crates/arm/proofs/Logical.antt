-- AND, ORR, EOR and ANDS of an immediate: the decoder's test is `Legal`, and what the decoder reads off a word's fields. Assumes nothing.
use mathlib.Core.Path.{◌≡◌, refl}
use mathlib.Core.Bool.{Bool, true, false, not, ◌&&◌}
use mathlib.Core.Logic.{◌↔◌}
use mathlib.Core.Option.{some}
use Prim.Native.Nat.{ℕ, ◌+◌, ◌*◌, ◌/◌, ◌%◌, ◌^◌, ◌≤◌, ◌<◌}
use native.Mathlib.Omega.{arith}
use borrow.Author.Tests.{eq-eqb, le-leb, lt-ltb, eqb-true, leb-true, ltb-true, not-true, not-false}
use lib.Dec.{eqb, leb, ltb}
use Rattle.arm.specs.Bits.{bits}
use Rattle.arm.specs.BitMasks.{Legal, len, esize}
use Rattle.arm.specs.MoveWide.{datasize}
use Rattle.arm.specs.LogicalImmediate.{logical_op, defined, decode_logical}
use Rattle.arm.proofs.Tests.{both}

-- ---- `defined` holds exactly for legal fields

module _ (w n s r : ℕ) where
  legal_defined : Legal w n s r → defined w n s ≡ true
  unfolding defined
  legal_defined h = rw (le-leb 1 (len n s) h.some_len, lt-ltb (s % esize n s + 1) (esize n s) h.not-all) (narrow (eqb w 32) refl)
    where
      narrow : (b : Bool) → eqb w 32 ≡ b → (not (b && not (eqb n 0)) && true && true) ≡ true
      narrow true e = rw (h.narrow (eqb-true w 32 e))
      narrow false e = refl

  defined_legal : n ≤ 1 → s ≤ 63 → r ≤ 63 → defined w n s ≡ true → Legal w n s r
  unfolding defined
  defined_legal hn hs hr t =
      let outer = both (not (eqb w 32 && not (eqb n 0)) && leb 1 (len n s)) (ltb (s % esize n s + 1) (esize n s)) t in
      let inner = both (not (eqb w 32 && not (eqb n 0))) (leb 1 (len n s)) outer.0 in
      let n-zero : w ≡ 32 → not (eqb n 0) ≡ false = λ q. rw (eq-eqb w 32 q) at (not-true (eqb w 32 && not (eqb n 0)) inner.0) in
      record {
        n_bits = hn;
        s_bits = hs;
        r_bits = hr;
        some_len = leb-true _ _ inner.1;
        not-all = ltb-true _ _ outer.1;
        narrow = λ q. eqb-true n 0 (not-false (eqb n 0) (n-zero q));
      }

  pub defined_exactly : n ≤ 1 → s ≤ 63 → r ≤ 63 → (defined w n s ≡ true) ↔ Legal w n s r
  defined_exactly hn hs hr = (defined_legal hn hs hr, legal_defined)

-- ---- one word

-- the word with these fields
abbrev pub spelled : (sf opc N immr imms Rn Rd : ℕ) → ℕ
spelled sf opc N immr imms Rn Rd =
    sf * 2 ^ 31 + opc * 2 ^ 29 + 0b100100 * 2 ^ 23 + N * 2 ^ 22 + immr * 2 ^ 16 + imms * 2 ^ 10 + Rn * 2 ^ 5 + Rd

pub decoded : (sf opc N immr imms Rn Rd : ℕ) → sf < 2 → opc < 4 → Legal (datasize sf) N imms immr → Rn < 32 → Rd < 32
    → decode_logical (spelled sf opc N immr imms Rn Rd)
    ≡ some (record { sf = sf; op = logical_op opc; N = N; immr = immr; imms = imms; Rn = Rn; Rd = Rd })
unfolding decode_logical
decoded sf opc N immr imms Rn Rd hs ho h hn hd =
    let w = spelled sf opc N immr imms Rn Rd in
    let N-low = h.n_bits in
    let imms-low = h.s_bits in
    let immr-low = h.r_bits in
    let fixed : bits 28 23 w ≡ 0b100100 = omega arith in
    let top : w / 2 ^ 31 ≡ sf = omega arith in
    let sf-at : bits 31 31 w ≡ sf = rw top (omega arith) in
    let opc-at : bits 30 29 w ≡ opc = omega arith in
    let N-at : bits 22 22 w ≡ N = omega arith in
    let immr-at : bits 21 16 w ≡ immr = omega arith in
    let imms-at : bits 15 10 w ≡ imms = omega arith in
    let Rn-at : bits 9 5 w ≡ Rn = omega arith in
    let Rd-at : bits 4 0 w ≡ Rd = omega arith in
    rw (fixed, sf-at, opc-at, N-at, immr-at, imms-at, Rn-at, Rd-at, legal_defined (datasize sf) N imms immr h)

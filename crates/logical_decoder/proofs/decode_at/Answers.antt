-- The answers of `logical_decoder::decode_at`. Assumes nothing.
use mathlib.Core.Path.{◌≡◌, refl, sym, ap, ◌∙◌}
use mathlib.Core.Logic.{inr, ⊎_elim}
use Prim.Native.Nat.{ℕ, ◌+◌, ◌-◌, ◌*◌, ◌/◌, ◌%◌, ◌^◌, ◌<◌, ◌≤◌}
use native.Mathlib.Nat.{mod-lt, lt_irrefl, lt_of_le_of_lt, not-le_of_lt, one-mul}
use native.Mathlib.Omega.{arith}
use lib.Bits.{bit_and, and_mask}
use lib.Pow.{shl_exact}
use Rattle.arm.specs.Bits.{Ones, ROR, Replicate}
use Rattle.arm.specs.BitMasks.{IsWidth, esize, len, Legal, wmask}
use Rattle.arm.proofs.Fields.{highest_is, not_short, legal_of, legal_element}
use Rattle.arm.proofs.Masks.{mask_is}
use Rattle.arm.proofs.Trailing.{pow_lt_back}
use Rattle.words.specs.Said.{no}
use Rattle.logical.specs.Width.{bits_of}
use Rattle.logical.proofs.Laws.{width_is}
use Rattle.logical_decoder.specs.Answer.{Decoded}
use Rattle.logical_decoder.proofs.decode_at.Goals as goal

masked : (w n s r : ℕ) {e l q m : ℕ} → e ≡ esize n s → l ≡ s % e → q ≡ r % e → m ≡ Replicate e (ROR e (Ones (l + 1)) q) (w / e) → wmask w n s r ≡ m
masked w n s r he hl hq is = mask_is w n s r (sym he) (ap (λ (k : ℕ). k + 1) (sym hl)) (sym hq) ∙ sym is

refused : {w n s r : ℕ} → IsWidth w → (Legal w n s r → ⊥) → Decoded w n s r (no 3)
refused ww h = inr (refl, ww, h)

-- the element length that N and S tell, and the part of a field below it
record Length (n s e : ℕ) : Type 0 where
  is : e ≡ esize n s
  below : (y : ℕ) → bit_and y (e - 1) ≡ y % e

length_of : (n s k : ℕ) → n ≤ 1 → s ≤ 63 → 2 ^ k ≤ n * 64 + (63 - s) → n * 64 + (63 - s) < 2 * 2 ^ k → Length n s (1 * 2 ^ k % 2 ^ 32)
unfolding esize len
length_of n s k hn hs lo hi =
    let low : k < 7 = pow_lt_back k 7 (lt_of_le_of_lt lo (omega arith)) in
    let highest = highest_is 6 k (n * 64 + (63 - s)) (omega arith) lo (omega arith) in
    let power : 1 * 2 ^ k % 2 ^ 32 ≡ 2 ^ k = shl_exact 1 k 32 (omega arith) (omega arith) ∙ one-mul (2 ^ k) in
    record { is = power ∙ ap (λ (j : ℕ). 2 ^ j) (sym highest); below = λ y. rw power (and_mask y k) }

-- once every test is passed the fields are legal
legal : {w n s r e l : ℕ} → n ≤ 1 → s ≤ 63 → r ≤ 63 → 2 ≤ n * 64 + (63 - s) → e ≡ esize n s → e ≤ w → l ≡ s % e → (l + 1 ≡ e → ⊥) → Legal w n s r
legal a b c d is fits low one = legal_of a b c d (λ q. one (rw (low, is) q)) (rw is at fits)

pub returns-then-x-lt2 : goal.returns-then-x-lt2
returns-then-x-lt2 c = refused (width_is c.args.w) (λ h. not_short h c.if-x-lt2.true)

pub returns-then-bits-e : goal.returns-then-bits-e
returns-then-bits-e c =
    let a = c.args in
    let t = length_of a.n a.s c.ilog2-e.result c.if-n-gt1.false c.if-s-gt63.false c.ilog2-e.ensures.power_le c.ilog2-e.ensures.next_power_gt in
    let fits : Legal (bits_of a.w) a.n a.s a.r → esize a.n a.s ≤ bits_of a.w = λ h. (legal_element (width_is a.w) h).fits in
    let room : Legal (bits_of a.w) a.n a.s a.r → 1 * 2 ^ c.ilog2-e.result % 2 ^ 32 ≤ c.bits.result = rw (c.bits.ensures, t.is) fits in
    refused (width_is a.w) (λ h. ⊎_elim (λ p. not-le_of_lt p (room h)) (λ p. lt_irrefl _ (rw (← t.is, ← t.below a.s, p.1) at h.not-all)) c.then-bits-e.either)

pub mask_of-requires : goal.mask_of-requires
mask_of-requires c =
    let a = c.args in
    let t = length_of a.n a.s c.ilog2-e.result c.if-n-gt1.false c.if-s-gt63.false c.ilog2-e.ensures.power_le c.ilog2-e.ensures.next_power_gt in
    let h : Legal (bits_of a.w) a.n a.s a.r =
    legal c.if-n-gt1.false c.if-s-gt63.false c.if-r-gt63.false c.if-x-lt2.false t.is (rw c.bits.ensures at c.if-bits-e.false) (t.below a.s) c.if-l-e.false in
    let pos : 0 < esize a.n a.s = omega (arith, h.not-all) in (
      rw t.is (legal_element (width_is a.w) h),
      omega arith,
      rw (t.below, t.is) h.not-all,
      rw (t.below, t.is) (mod-lt a.r pos),
    )

pub returns : goal.returns
returns c =
    let a = c.args in
    let t = length_of a.n a.s c.ilog2-e.result c.if-n-gt1.false c.if-s-gt63.false c.ilog2-e.ensures.power_le c.ilog2-e.ensures.next_power_gt in
    let h : Legal (bits_of a.w) a.n a.s a.r =
    legal c.if-n-gt1.false c.if-s-gt63.false c.if-r-gt63.false c.if-x-lt2.false t.is (rw c.bits.ensures at c.if-bits-e.false) (t.below a.s) c.if-l-e.false in
    (width_is a.w, record { legal = h; mask = masked (bits_of a.w) a.n a.s a.r t.is (t.below a.s) (t.below a.r) c.mask_of.ensures })

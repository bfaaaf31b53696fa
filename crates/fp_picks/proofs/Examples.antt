-- Worked values of `pick_fp_opcode`. Assumes nothing.
use Rattle.std.proofs.Common.{◌≡◌, ℕ, zero, suc, ◌+◌, ◌-◌, ◌*◌, ◌/◌, ◌%◌, ◌^◌, ◌<◌, max, true, false, cond, eqb, ltb, [], ◌∷◌, get_or, refl, ap, ◌∙◌, arith}
use lib.Arith.{lt-one}
use lib.Bits.{bit_or, bit_xor, differ, or_step, xor_step}
use Rattle.arm.proofs.Worked.{Worked}
use Rattle.words.specs.Bit.{bit_of}
use Rattle.words.specs.Said.{ok, no}
use Rattle.simd.specs.Kinds.{Vec16, Vec64, Vec128, none, H, D, within}
use Rattle.fp_picks.specs.Pick.{row_at, word_of, scalar_of, vector_of, pick_of}

-- ---- what is refused

pub refused :
    Worked
    ((pick_of 8 0 0 0 0 0, no 7)
    ∷ (pick_of 5 8 0 0 0 0, no 7)
    ∷ (pick_of 1 0 0x1E204000 6 0 0, no 7)  -- the row before the kind
    ∷ (pick_of 1 0 0x1E204000 0 0 0, no 3)
    ∷ (pick_of 4 0 0x1E204000 0 0 0, no 3)  -- row 0 has no H
    ∷ (pick_of 4 0 0 0 0 0, no 3)  -- 3 before 10
    ∷ (pick_of 5 0 0 0 0x0E20D400 0, no 10)
    ∷ (pick_of 7 3 0x1E204000 0 0 0, no 10)  -- a zero base at Vec128
    ∷ (pick_of 7 1 0 0 0x0E20D400 4, no 3)
    ∷ (pick_of 7 7 0 0 0x0E20D400 4, no 3)
    ∷ (pick_of 5 3 0 0 0x0E20D400 4, no 3)
    ∷ [])
unfolding pick_of scalar_of vector_of word_of
refused = refl

-- ---- what is picked. Xor and or by binary digits compute on words

abbrev digits : (ℕ → ℕ → ℕ) → ℕ → ℕ → ℕ → ℕ
digits f zero a b = 0
digits f (suc k) a b = digits f k (a / 2) (b / 2) * 2 + f (a % 2) (b % 2)

module _ (f op : ℕ → ℕ → ℕ) (zeros : op 0 0 ≡ 0) (step : (a b : ℕ) → op a b ≡ op (a / 2) (b / 2) * 2 + f (a % 2) (b % 2)) where
  by_digits : (k a b : ℕ) → a < 2 ^ k → b < 2 ^ k → op a b ≡ digits f k a b
  by_digits zero a b ha hb = rw (lt-one ha, lt-one hb) zeros
  by_digits (suc k) a b ha hb =
      step a b ∙ ap (λ (n : ℕ). n * 2 + f (a % 2) (b % 2)) (by_digits k (a / 2) (b / 2) (omega arith) (omega arith))

abbrev xor : ℕ → ℕ → ℕ
xor = digits differ 32

abbrev or : ℕ → ℕ → ℕ
or = digits max 32

abbrev word_at : ℕ → ℕ → ℕ
word_at n size = get_or (row_at n).xor size 0

word : (n size base w : ℕ) → bit_of (row_at n).sizes size ≡ true → eqb base 0 ≡ false → word_at n size < 2 ^ 32 → w < 2 ^ 32
    → word_of n size base w ≡ ok (xor (word_at n size) w, size)
unfolding word_of
word n size base w t z hx hw =
    simp (t, z) (ap (λ (x : ℕ). ok (x, size)) (by_digits differ bit_xor refl xor_step 32 (word_at n size) w hx hw))

scalar : (kind n base vbase vrow : ℕ) → ltb 7 kind ≡ false → ltb 5 n ≡ false → within Vec16 Vec64 kind ≡ true
    → pick_of kind none base n vbase vrow ≡ word_of n (kind - Vec16) base base
unfolding pick_of scalar_of
scalar kind n base vbase vrow a b c = simp (a, b, c)

vector : (kind element n base w sbase srow : ℕ) → ltb 7 kind ≡ false → ltb 7 element ≡ false → eqb element none ≡ false → ltb 5 n ≡ false
    → within Vec64 Vec128 kind ≡ true → within H D element ≡ true → cond (eqb kind Vec128) (bit_or base (2 ^ 30)) base ≡ w
    → pick_of kind element sbase srow base n ≡ word_of n (element - H) base w
unfolding pick_of vector_of
vector kind element n base w sbase srow a b c d e f g = simp (a, b, c, d, e, f, g)

with_30 : (base : ℕ) → base < 2 ^ 32 → bit_or base (2 ^ 30) ≡ or base (2 ^ 30)
with_30 base h = by_digits max bit_or refl or_step 32 base (2 ^ 30) h (omega arith)

-- fadd s, d
pub fadd_s : pick_of 5 0 0x1E202800 0 0 0 ≡ ok (0x1E202800, 1)
fadd_s = scalar 5 0 0x1E202800 0 0 refl refl refl ∙ word 0 1 0x1E202800 0x1E202800 refl refl (omega arith) (omega arith)

pub fadd_d : pick_of 6 0 0x1E202800 0 0 0 ≡ ok (0x1E602800, 2)
fadd_d = scalar 6 0 0x1E202800 0 0 refl refl refl ∙ word 0 2 0x1E202800 0x1E202800 refl refl (omega arith) (omega arith)

-- row 3 at D has the word 0, as document 01 and the Rust have it: Vec128, D gives 4EA0F820, which is fabs v0.4s; Arm's fabs v0.2d is 4EE0F820
pub row_3_at_d : pick_of 7 4 0 0 0x0EA0F820 3 ≡ ok (0x4EA0F820, 2)
row_3_at_d =
    vector 7 4 3 0x0EA0F820 0x4EA0F820 0 0 refl refl refl refl refl refl (with_30 0x0EA0F820 (omega arith))
    ∙ word 3 2 0x0EA0F820 0x4EA0F820 refl refl (omega arith) (omega arith)

-- Vec64 with element D is accepted: 0E60D400, which Arm leaves unallocated
pub vec64_d : pick_of 6 4 0 0 0x0E20D400 4 ≡ ok (0x0E60D400, 2)
vec64_d =
    vector 6 4 4 0x0E20D400 0x0E20D400 0 0 refl refl refl refl refl refl refl
    ∙ word 4 2 0x0E20D400 0x0E20D400 refl refl (omega arith) (omega arith)

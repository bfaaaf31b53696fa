-- MOVN, MOVZ and MOVK: what the decoder reads off a word's fields, what one word leaves in the registers, and what it leaves of the
-- halfwords of a value. Assumes nothing.
use mathlib.Core.Path.{◌≡◌, refl, ap, fun_ext}
use mathlib.Core.Bool.{Bool, true, false, cond, not, ◌&&◌}
use mathlib.Core.List.{List, ◌∷◌}
use mathlib.Core.Option.{Option, none, some, map, some-injective, none-ne-some}
use Prim.Native.Nat.{ℕ, zero, suc, ◌+◌, ◌-◌, ◌*◌, ◌/◌, ◌%◌, ◌^◌, ◌<◌}
use native.Mathlib.Omega.{arith}
use borrow.Author.Tests.{eq-eqb, ne_eqb, lt-leb, leb-false, not-true}
use lib.Dec.{eqb, leb, eqb-suc-zero}
use Rattle.arm.specs.Bits.{bits, Ones}
use Rattle.arm.specs.MoveWide.{Op, Wide, op_of, decode, Regs, write, datasize, insert, result, exec, run}

-- ---- one word

-- the bits of a wide move that are the same for every register and halfword
abbrev pub base : ℕ → ℕ → ℕ
base sf opc = sf * 2 ^ 31 + opc * 2 ^ 29 + 0b100101 * 2 ^ 23

-- the word with these fields
abbrev pub spelled : ℕ → ℕ → ℕ → ℕ → ℕ → ℕ
spelled sf opc hw imm16 Rd = base sf opc + hw * 2 ^ 21 + imm16 * 2 ^ 5 + Rd

-- the sizes of the fields; at sf = 0 the halfword's number is 0 or 1, and register 31 is left out
pub record Sizes (sf opc hw imm16 Rd : ℕ) : Type 0 where
  pub sf_is : sf < 2
  pub opc_is : opc < 4
  pub hw_is : hw < 2 + 2 * sf
  pub imm16_is : imm16 < 2 ^ 16
  pub Rd_is : Rd < 31

module _ (sf opc hw imm16 Rd : ℕ) (l : Sizes sf opc hw imm16 Rd) where
  pub decoded : {op : Op} → op_of opc ≡ some op → decode (spelled sf opc hw imm16 Rd) ≡ some (record { sf = sf; op = op; hw = hw; imm16 = imm16; Rd = Rd })
  unfolding decode
  decoded e =
      let w = spelled sf opc hw imm16 Rd in
      let fixed : bits 28 23 w ≡ 0b100101 = omega arith in
      let top : w / 2 ^ 31 ≡ sf = omega arith in
      let sf-at : bits 31 31 w ≡ sf = rw top (omega arith) in
      let opc-at : bits 30 29 w ≡ opc = omega arith in
      let hw-at : bits 22 21 w ≡ hw = omega arith in
      let imm16-at : bits 20 5 w ≡ imm16 = omega arith in
      let Rd-at : bits 4 0 w ≡ Rd = omega arith in
      rw (fixed, sf-at, opc-at, hw-at, imm16-at, Rd-at, e, allocated sf l.hw_is)
    where
      allocated : (s : ℕ) → hw < 2 + 2 * s → not (eqb s 0 && leb 2 hw) ≡ true
      allocated zero m = rw (lt-leb 2 hw m)
      allocated (suc s) m = rw (eqb-suc-zero s)

-- what one word leaves in its register
abbrev pub left : ℕ → Op → ℕ → ℕ → ℕ → Regs → ℕ
left sf op hw imm16 Rd R = result op (datasize sf) (16 * hw) imm16 (R Rd % 2 ^ datasize sf)

-- a word that is a wide move runs: its register has the result, and the others are as they were
pub ran_of : (w sf hw imm16 Rd : ℕ) {op : Op} → Rd < 31 → decode w ≡ some (record { sf = sf; op = op; hw = hw; imm16 = imm16; Rd = Rd }) → (ws : List ℕ) (R : Regs)
    → run (w ∷ ws) R ≡ run ws (write R Rd (left sf op hw imm16 Rd R))
unfolding run exec
ran_of w sf hw imm16 Rd l e ws R = rw (e, ne_eqb Rd 31 (λ q. omega arith))

pub ran : (sf opc hw imm16 Rd : ℕ) → Sizes sf opc hw imm16 Rd → {op : Op} → op_of opc ≡ some op → (ws : List ℕ) (R : Regs)
    → run (spelled sf opc hw imm16 Rd ∷ ws) R ≡ run ws (write R Rd (left sf op hw imm16 Rd R))
ran sf opc hw imm16 Rd l e = ran_of (spelled sf opc hw imm16 Rd) sf hw imm16 Rd l.Rd_is (decoded sf opc hw imm16 Rd l e)

-- what the decoder lets through
pub legal : (w : ℕ) {sf hw imm16 Rd : ℕ} {op : Op} → decode w ≡ some (record { sf = sf; op = op; hw = hw; imm16 = imm16; Rd = Rd })
    → (sf < 2) × (hw < 2 + 2 * sf) × (imm16 < 2 ^ 16)
unfolding decode
legal w {sf} {hw} {imm16} {Rd} {op} e =
    go (eqb (bits 28 23 w) 0b100101) (not (eqb (bits 31 31 w) 0 && leb 2 (bits 22 21 w))) refl (op_of (bits 30 29 w)) e
  where
    read : Op → Wide
    read o = record { sf = bits 31 31 w; op = o; hw = bits 22 21 w; imm16 = bits 20 5 w; Rd = bits 4 0 w }

    low : (s k : ℕ) → not (eqb s 0 && leb 2 k) ≡ true → k < 4 → k < 2 + 2 * s
    low zero k t l = leb-false 2 k (not-true _ t)
    low (suc s) k t l = omega arith

    go : (a b : Bool) → not (eqb (bits 31 31 w) 0 && leb 2 (bits 22 21 w)) ≡ b → (p : Option Op)
        → cond (a && b) (map read p) none ≡ some (record { sf = sf; op = op; hw = hw; imm16 = imm16; Rd = Rd })
        → (sf < 2) × (hw < 2 + 2 * sf) × (imm16 < 2 ^ 16)
    go true true t (some o) q =
        let is : read o ≡ record { sf = sf; op = op; hw = hw; imm16 = imm16; Rd = Rd } = some-injective _ _ q in
        let s : bits 31 31 w ≡ sf = ap (λ (n : Wide). n.sf) is in
        let k : bits 22 21 w ≡ hw = ap (λ (n : Wide). n.hw) is in
        let h : bits 20 5 w ≡ imm16 = ap (λ (n : Wide). n.imm16) is in
        (omega arith, omega (arith, low (bits 31 31 w) (bits 22 21 w) t (omega arith)), omega arith)
    go true true t none q = absurd (none-ne-some _ q)
    go true false t p q = absurd (none-ne-some _ q)
    go false b t p q = absurd (none-ne-some _ q)

-- ---- the registers

again : {A : Type 0} (b : Bool) (x y z : A) → cond b y (cond b x z) ≡ cond b y z
again true x y z = refl
again false x y z = refl

pub write_write : (R : Regs) (d x y : ℕ) → write (write R d x) d y ≡ write R d y
write_write R d x y = fun_ext (λ k. again (eqb k d) x y (R k))

pub write_same : (R : Regs) (d x : ℕ) → write R d x d ≡ x
write_same R d x = rw (eq-eqb d d refl)

-- ---- the halfwords of a value

-- four halfwords, lowest first
abbrev pub four : ℕ → ℕ → ℕ → ℕ → ℕ
four a b c d = a + b * 2 ^ 16 + c * 2 ^ 32 + d * 2 ^ 48

module _ (a b c d h : ℕ) (al : a < 2 ^ 16) (bl : b < 2 ^ 16) (cl : c < 2 ^ 16) (dl : d < 2 ^ 16) where
  pub insert_0 : insert (four a b c d) (16 * 0) h ≡ four h b c d
  insert_0 = omega arith

  pub insert_1 : insert (four a b c d) (16 * 1) h ≡ four a h c d
  insert_1 = omega arith

  pub insert-2 : insert (four a b c d) (16 * 2) h ≡ four a b h d
  insert-2 = omega arith

  pub insert_3 : insert (four a b c d) (16 * 3) h ≡ four a b c h
  insert_3 = omega arith

at_four : (P : ℕ → Type 0) → P 0 → P 1 → P 2 → P 3 → (k : ℕ) → k < 4 → P k
at_four P a b c d zero l = a
at_four P a b c d (suc zero) l = b
at_four P a b c d (suc (suc zero)) l = c
at_four P a b c d (suc (suc (suc zero))) l = d
at_four P a b c d (suc (suc (suc (suc k)))) l = absurd (omega arith)

-- at either size what is inserted stays within it
pub insert_lt : (sf x h k : ℕ) → sf < 2 → k < 2 + 2 * sf → x < 2 ^ datasize sf → h < 2 ^ 16 → insert x (16 * k) h < 2 ^ datasize sf
insert_lt zero x h k sl kl xl hl =
    at_four (λ k. k < 2 → insert x (16 * k) h < 2 ^ 32) (omega arith) (omega arith) (omega arith) (omega arith) k (omega arith) kl
insert_lt (suc zero) x h k sl kl xl hl =
    at_four (λ k. insert x (16 * k) h < 2 ^ 64) (omega arith) (omega arith) (omega arith) (omega arith) k kl
insert_lt (suc (suc s)) x h k sl kl xl hl = absurd (omega arith)

-- MOVN of a halfword is all ones with its inverse
pub inverted : (sf h k : ℕ) → sf < 2 → k < 2 + 2 * sf → h < 2 ^ 16
    → Ones (datasize sf) - insert 0 (16 * k) h ≡ insert (Ones (datasize sf)) (16 * k) (0xFFFF - h)
inverted zero h k sl kl hl =
    at_four (λ k. k < 2 → Ones 32 - insert 0 (16 * k) h ≡ insert (Ones 32) (16 * k) (0xFFFF - h)) (omega arith) (omega arith) (omega arith) (omega arith) k (omega arith) kl
inverted (suc zero) h k sl kl hl =
    at_four (λ k. Ones 64 - insert 0 (16 * k) h ≡ insert (Ones 64) (16 * k) (0xFFFF - h)) (omega arith) (omega arith) (omega arith) (omega arith) k kl
inverted (suc (suc s)) h k sl kl hl = absurd (omega arith)

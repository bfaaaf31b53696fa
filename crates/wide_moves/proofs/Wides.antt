-- A wide move, by the fields of a word. Assumes nothing.
use mathlib.Core.Path.{◌≡◌, refl, sym, ◌∙◌}
use mathlib.Core.Bool.{Bool, true, false, cond, not, ◌&&◌}
use mathlib.Core.Logic.{◌⊎◌, inl, inr, ⊎_elim}
use mathlib.Core.List.{List, ◌∷◌}
use mathlib.Core.Option.{Option, none, some}
use Prim.Native.Nat.{ℕ, zero, suc, ◌+◌, ◌*◌, ◌%◌, ◌≤◌, ◌<◌}
use native.Mathlib.Omega.{arith}
use borrow.Author.Tests.{eq-eqb, ne_eqb, lt-leb, le-leb, eqb-true, eqb-false, leb-true, leb-false}
use lib.Dec.{eqb, leb, eqb-suc-zero}
use Rattle.arm.specs.Bits.{bits}
use Rattle.arm.specs.MoveWide.{Op, MOVN, MOVZ, MOVK, Wide, op_of, decode, Regs, write, run}
use Rattle.arm.proofs.Wide.{left, ran_of}
use Rattle.wide_moves.specs.declared.WideMove.{WideMove}
use Rattle.wide_moves.specs.Wide.{opc_of, wide_of}
use Rattle.std.specs.Prelude.{None, Some}

-- ---- opc

pub record Known (opc : ℕ) : Type 0 where
  pub op : Op
  pub is : op_of opc ≡ some op
  pub back : opc_of op ≡ opc

pub known : (opc : ℕ) → opc < 4 → (opc ≡ 1 → ⊥) → Known opc
known zero l n = record { op = MOVN; is = refl; back = refl }
known (suc zero) l n = absurd (n refl)
known (suc (suc zero)) l n = record { op = MOVZ; is = refl; back = refl }
known (suc (suc (suc zero))) l n = record { op = MOVK; is = refl; back = refl }
known (suc (suc (suc (suc k)))) l n = absurd (omega arith)

-- ---- what is read is the word's fields

abbrev pub fields_of : ℕ → WideMove
fields_of w = record { sf = bits 31 31 w; opc = bits 30 29 w; hw = bits 22 21 w; imm16 = bits 20 5 w; rd = w % 32 }

-- the tests that a wide move passes
pub record Passes (w : ℕ) : Type 0 where
  pub group : bits 28 23 w ≡ 0b100101
  pub size : bits 22 21 w < 2 + 2 * bits 31 31 w
  pub opc : bits 30 29 w ≡ 1 → ⊥
  pub register : w % 32 ≡ 31 → ⊥

module _ (w : ℕ) where
  pub other_group : (bits 28 23 w ≡ 0b100101 → ⊥) → None ≡ wide_of (decode w)
  unfolding decode
  other_group h = simp (ne_eqb (bits 28 23 w) 0b100101 h)

  pub past_size : 2 + 2 * bits 31 31 w ≤ bits 22 21 w → None ≡ wide_of (decode w)
  unfolding decode
  past_size h =
      let s : bits 31 31 w ≡ 0 = omega arith in
      rw (s, le-leb 2 (bits 22 21 w) (omega arith)) (go (eqb (bits 28 23 w) 0b100101) _)
    where
      go : (b : Bool) (x : Option Wide) → None ≡ wide_of (cond (b && false) x none)
      go true x = refl
      go false x = refl

  pub no_opc : bits 30 29 w ≡ 1 → None ≡ wide_of (decode w)
  unfolding decode
  no_opc h = rw h (go (eqb (bits 28 23 w) 0b100101 && not (eqb (bits 31 31 w) 0 && leb 2 (bits 22 21 w))))
    where
      go : (b : Bool) → None ≡ wide_of (cond b none none)
      go true = refl
      go false = refl

  pub a_move : bits 28 23 w ≡ 0b100101 → bits 22 21 w < 2 + 2 * bits 31 31 w → (k : Known (bits 30 29 w))
      → decode w ≡ some (record { sf = bits 31 31 w; op = k.op; hw = bits 22 21 w; imm16 = bits 20 5 w; Rd = bits 4 0 w })
  unfolding decode
  a_move g l k = rw (eq-eqb (bits 28 23 w) 0b100101 g, allocated (bits 31 31 w) l, k.is)
    where
      allocated : (s : ℕ) → bits 22 21 w < 2 + 2 * s → not (eqb s 0 && leb 2 (bits 22 21 w)) ≡ true
      allocated zero m = rw (lt-leb 2 (bits 22 21 w) m)
      allocated (suc s) m = rw (eqb-suc-zero s)

  pub read_31 : bits 28 23 w ≡ 0b100101 → bits 22 21 w < 2 + 2 * bits 31 31 w → (bits 30 29 w ≡ 1 → ⊥) → w % 32 ≡ 31 → None ≡ wide_of (decode w)
  read_31 g l n r =
      let k = known (bits 30 29 w) (omega arith) n in
      let d : bits 4 0 w ≡ 31 = omega arith in
      sym (rw (a_move g l k, d))

  pub read_move : Passes w → Some (fields_of w) ≡ wide_of (decode w)
  read_move p =
      let k = known (bits 30 29 w) (omega arith) p.opc in
      let d : bits 4 0 w ≡ w % 32 = omega arith in
      sym (rw (a_move p.group p.size k, d, ne_eqb (w % 32) 31 p.register, k.back))

pub wide_cases : (w : ℕ) → (None ≡ wide_of (decode w)) ⊎ Passes w
wide_cases w = go (eqb (bits 28 23 w) 0b100101) refl (leb (2 + 2 * bits 31 31 w) (bits 22 21 w)) refl (eqb (bits 30 29 w) 1) refl (eqb (w % 32) 31) refl
  where
    go : (a : Bool) → eqb (bits 28 23 w) 0b100101 ≡ a → (b : Bool) → leb (2 + 2 * bits 31 31 w) (bits 22 21 w) ≡ b
        → (c : Bool) → eqb (bits 30 29 w) 1 ≡ c → (d : Bool) → eqb (w % 32) 31 ≡ d → (None ≡ wide_of (decode w)) ⊎ Passes w
    go false p b q c r d s = inl (other_group w (eqb-false _ _ p))
    go true p true q c r d s = inl (past_size w (leb-true _ _ q))
    go true p false q true r d s = inl (no_opc w (eqb-true _ _ r))
    go true p false q false r true s = inl (read_31 w (eqb-true _ _ p) (leb-false _ _ q) (eqb-false _ _ r) (eqb-true _ _ s))
    go true p false q false r false s = inr (record { group = eqb-true _ _ p; size = leb-false _ _ q; opc = eqb-false _ _ r; register = eqb-false _ _ s })

not_move : {m : WideMove} → Some m ≡ None → ⊥
not_move e = let z : ◌≡◌ {A = ℕ} 0 1 = cc in omega arith

pub moves_back : (w : ℕ) {m : WideMove} → Some m ≡ wide_of (decode w) → Passes w × (m ≡ fields_of w)
moves_back w {m} e =
    ⊎_elim (λ (n : None ≡ wide_of (decode w)). absurd (not_move (e ∙ sym n))) (λ (p : Passes w). (p, same (e ∙ sym (read_move w p)))) (wide_cases w)
  where
    same : {n : WideMove} → Some m ≡ Some n → m ≡ n
    same q = cc

-- ---- what one word leaves

module _ (w : ℕ) (p : Passes w) where
  pub ran_word : (ws : List ℕ) (R : Regs) → (k : Known (bits 30 29 w))
      → run (w ∷ ws) R ≡ run ws (write R (w % 32) (left (bits 31 31 w) k.op (bits 22 21 w) (bits 20 5 w) (w % 32) R))
  ran_word ws R k =
      let d : bits 4 0 w ≡ w % 32 = omega arith in
      let n = p.register in
      ran_of w (bits 31 31 w) (bits 22 21 w) (bits 20 5 w) (w % 32) (omega arith) (rw d at (a_move w p.group p.size k)) ws R

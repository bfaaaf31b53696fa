-- The loop over the MOVK words: what is read so far, and what is left. Assumes nothing.
use mathlib.Core.Path.{◌≡◌, refl, sym, ap, ◌∙◌}
use mathlib.Core.Bool.{Bool, true, false, cond, ◌&&◌}
use mathlib.Core.Logic.{⊎_elim}
use mathlib.Core.List.{List, [], ◌∷◌}
use mathlib.Core.Option.{some}
use Prim.Native.Nat.{ℕ, zero, suc, ◌+◌, ◌-◌, ◌*◌, ◌%◌, ◌^◌, ◌≤◌, ◌<◌}
use native.Mathlib.Nat.{mod-eq_of_lt, lt_of_lt_of_le}
use native.Mathlib.Numerals.{add-one}
use native.Mathlib.Omega.{arith}
use borrow.Author.Tests.{eq-eqb, ne_eqb, eqb-true, le-ltb}
use lib.Dec.{eqb}
use lib.ListN.{length, take, drop, get_or, length-drop}
use lib.Pow.{pow_pos, le_ones}
use lib.Seq.{drop-cons, drop-length, take-length}
use Rattle.arm.specs.Bits.{bits, Ones}
use Rattle.arm.specs.MoveWide.{Op, MOVN, MOVZ, MOVK, op_of, decode, Regs, write, datasize, insert, result, run}
use Rattle.arm.proofs.Tests.{never}
use Rattle.arm.proofs.Wide.{insert_lt, write_write, write_same}
use Rattle.wide_moves.specs.Wide.{wide_of, opc_of}
use Rattle.wide_moves.specs.declared.WideMove.{WideMove}
use Rattle.wide_moves.proofs.Wides.{Known, known, Passes, read_move, wide_cases, moves_back, ran_word}
use Rattle.items.proofs.Cases.{wide_back}
use Rattle.reader.specs.declared.Constant.{Constant}
use Rattle.reader.specs.declared.Span.{Span}
use Rattle.reader.specs.declared.Found.TheVariants.{Joined}
use Rattle.reader.specs.Found.{span, keeps, leading, words_along, left_in, value_of, joined_of, with_movks, joined_on, resumed_of}
use Rattle.reader.specs.Private.{FirstAt, first_of, kept_of}
use Rattle.std.specs.Prelude.{None, Some, Ok}
use Rattle.std.specs.Prelude.{Option as RustOption}

-- ---- the first word

-- what a MOVZ or MOVN leaves does not depend on the registers
first_left : (o size pos h old : ℕ) → (k : Known o) → (o ≡ 3 → ⊥) → result k.op size pos h old ≡ cond (eqb o 2) (insert 0 pos h) (Ones size - insert 0 pos h)
first_left o size pos h old k n = go k.op k.back
  where
    go : (op : Op) → opc_of op ≡ o → result op size pos h old ≡ cond (eqb o 2) (insert 0 pos h) (Ones size - insert 0 pos h)
    go MOVN e = rw (← e)
    go MOVZ e = rw (← e)
    go MOVK e = absurd (n (sym e))

module _ (w : ℕ) {m : WideMove} (e : Some m ≡ wide_of (decode w)) (n : m.opc ≡ 3 → ⊥) where
  pub first_run : (ws : List ℕ) (R : Regs) → run (w ∷ ws) R ≡ run ws (write R m.rd (first_of m))
  first_run ws R =
      let b = moves_back w e in
      let k = known (bits 30 29 w) (omega arith) b.0.opc in
      let o : bits 30 29 w ≡ 3 → ⊥ = rw b.1 at n in
      rw b.1 (ran_word w b.0 ws R k
      ∙ ap (λ (x : ℕ). run ws (write R (w % 32) x)) (first_left (bits 30 29 w) (datasize (bits 31 31 w)) (16 * bits 22 21 w) (bits 20 5 w) (R (w % 32) % 2 ^ datasize (bits 31 31 w)) k o))

-- the fields of a wide move
pub fields_small : (w : ℕ) {m : WideMove} → Some m ≡ wide_of (decode w) → (m.sf < 2) × (m.hw < 2 + 2 * m.sf) × (m.imm16 < 2 ^ 16)
fields_small w e = let b = moves_back w e in rw b.1 (omega arith, b.0.size, omega arith)

pub first-lt : (m : WideMove) → (m.sf < 2) × (m.hw < 2 + 2 * m.sf) × (m.imm16 < 2 ^ 16) → first_of m < 2 ^ datasize m.sf
first-lt m h =
    let l = insert_lt m.sf 0 m.imm16 m.hw h.0 h.1 (pow_pos (datasize m.sf)) h.2 in
    go (eqb m.opc 2) l (pow_pos (datasize m.sf))
  where
    go : (b : Bool) {x s : ℕ} → x < s → 0 < s → cond b x (s - 1 - x) < s
    go true l p = l
    go false l p = omega arith

-- as the code makes it
module _ (m : WideMove) {x : ℕ} (e : x ≡ insert 0 (16 * m.hw) m.imm16) where
  pub first_z : m.opc ≡ 2 → x ≡ first_of m
  first_z q = e ∙ sym (rw (eq-eqb m.opc 2 q))

  pub first_n : (m.opc ≡ 2 → ⊥) → {t : ℕ} → t ≡ Ones (datasize m.sf) → t - x ≡ first_of m
  first_n q t = sym (rw (ne_eqb m.opc 2 q, t, e))

  pub first_le : (m.sf < 2) × (m.hw < 2 + 2 * m.sf) × (m.imm16 < 2 ^ 16) → {t : ℕ} → t ≡ Ones (datasize m.sf) → x ≤ t
  first_le h t = rw (e, t) (le_ones (datasize m.sf) (insert_lt m.sf 0 m.imm16 m.hw h.0 h.1 (pow_pos (datasize m.sf)) h.2))

-- ---- a MOVK

-- what is kept of a word is a MOVK at the size and the register, and what is not is none
kept_some : (sf rd : ℕ) (o : RustOption WideMove) {m : WideMove} → Some m ≡ kept_of sf rd o → (keeps sf rd o ≡ true) × (Some m ≡ o)
kept_some sf rd o {m} = go (keeps sf rd o) refl
  where
    go : (b : Bool) → keeps sf rd o ≡ b → Some m ≡ cond b o None → (keeps sf rd o ≡ true) × (Some m ≡ o)
    go true t e = (t, e)
    go false t e = let z : ◌≡◌ {A = ℕ} 0 1 = cc in absurd (omega arith)

kept_none : (sf rd : ℕ) (o : RustOption WideMove) → None ≡ kept_of sf rd o → keeps sf rd o ≡ false
kept_none sf rd None e = refl
kept_none sf rd (Some m) e = go (keeps sf rd (Some m)) refl e
  where
    go : (b : Bool) → keeps sf rd (Some m) ≡ b → None ≡ cond b (Some m) None → keeps sf rd (Some m) ≡ false
    go true t e = let z : ◌≡◌ {A = ℕ} 0 1 = cc in absurd (omega arith)
    go false t e = t

pub kept_back : (sf rd w : ℕ) → keeps sf rd (wide_of (decode w)) ≡ true → Passes w × (bits 30 29 w ≡ 3) × (bits 31 31 w ≡ sf) × (w % 32 ≡ rd)
kept_back sf rd w t = ⊎_elim
    (λ (q : None ≡ wide_of (decode w)). never (sym (rw (← q) at t)))
    (λ (p : Passes w). all p (eqb (bits 30 29 w) 3) refl (eqb (bits 31 31 w) sf) refl (eqb (w % 32) rd) refl (rw (← read_move w p) at t))
    (wide_cases w)
  where
    all : Passes w → (a : Bool) → eqb (bits 30 29 w) 3 ≡ a → (b : Bool) → eqb (bits 31 31 w) sf ≡ b → (c : Bool) → eqb (w % 32) rd ≡ c
        → (a && (b && c)) ≡ true → Passes w × (bits 30 29 w ≡ 3) × (bits 31 31 w ≡ sf) × (w % 32 ≡ rd)
    all k true p true q true r u = (k, eqb-true _ _ p, eqb-true _ _ q, eqb-true _ _ r)
    all k true p true q false r u = never (sym u)
    all k true p false q c r u = never (sym u)
    all k false p b q c r u = never (sym u)

module _ (sf rd w : ℕ) (t : keeps sf rd (wide_of (decode w)) ≡ true) where
  pub kept-lt : (x : ℕ) → x < 2 ^ datasize sf → insert x (16 * bits 22 21 w) (bits 20 5 w) < 2 ^ datasize sf
  kept-lt x l =
      let b = kept_back sf rd w t in
      insert_lt sf x (bits 20 5 w) (bits 22 21 w) (omega arith) (rw b.2 at b.0.size) l (omega arith)

  pub kept_run : (ws : List ℕ) (R : Regs) (x : ℕ) → x < 2 ^ datasize sf
      → run (w ∷ ws) (write R rd x) ≡ run ws (write R rd (insert x (16 * bits 22 21 w) (bits 20 5 w)))
  kept_run ws R x l =
      let b = kept_back sf rd w t in
      let k : Known (bits 30 29 w) = record { op = MOVK; is = ap op_of b.1; back = sym b.1 } in
      let old : write R rd x rd % 2 ^ datasize sf ≡ x = rw (write_same R rd x) (mod-eq_of_lt l) in
      rw (b.2, b.3) at (ran_word w b.0 ws (write R rd x) k)
      ∙ ap (run ws) (write_write R rd x _ ∙ ap (λ (y : ℕ). write R rd (insert y (16 * bits 22 21 w) (bits 20 5 w))) old)

pub size-le : (sf : ℕ) → sf < 2 → 2 ^ datasize sf ≤ 2 ^ 64
size-le zero l = omega arith
size-le (suc zero) l = omega arith
size-le (suc (suc s)) l = absurd (omega arith)

pub leading_le : (sf rd : ℕ) (ws : List ℕ) → length (leading sf rd ws) ≤ length ws
unfolding leading
leading_le sf rd [] = omega arith
leading_le sf rd (w ∷ ws) = go (keeps sf rd (wide_of (decode w))) (leading_le sf rd ws)
  where
    go : (b : Bool) → length (leading sf rd ws) ≤ length ws → length (cond b (w ∷ leading sf rd ws) []) ≤ suc (length ws)
    go true h = omega arith
    go false h = omega arith

-- the invariant: the MOVK words of a run, of which i are read, leave what those behind them leave from the value so far
pub record Going (ws : List ℕ) (c d : Constant) (i : ℕ) : Type 0 where
  pub sf : d.sf ≡ c.sf
  pub rd : d.rd ≡ c.rd
  pub count : d.count ≡ c.count + i
  pub size : c.sf < 2
  pub small : d.value < 2 ^ datasize c.sf
  pub spans : length (leading c.sf c.rd ws) ≡ i + length (leading c.sf c.rd (drop i ws))
  pub runs : (R : Regs) → run (leading c.sf c.rd ws) (write R c.rd c.value) ≡ run (leading c.sf c.rd (drop i ws)) (write R c.rd d.value)

pub goes : (ws : List ℕ) (c : Constant) → c.sf < 2 → c.value ≤ Ones (datasize c.sf) → Going ws c c 0
goes ws c l h =
    record { sf = refl; rd = refl; count = omega arith; size = l; small = omega (arith, pow_pos (datasize c.sf)); spans = omega arith; runs = λ R. refl }

module _ {ws : List ℕ} {c d : Constant} {i : ℕ} (j : Going ws c d i) where
  lead : i < length ws → (b : Bool) → keeps c.sf c.rd (wide_of (decode (get_or ws i 0))) ≡ b
      → leading c.sf c.rd (drop i ws) ≡ cond b (get_or ws i 0 ∷ leading c.sf c.rd (drop (suc i) ws)) []
  unfolding leading
  lead l b t = ap (leading c.sf c.rd) (drop-cons ws i 0 l) ∙ rw t

  ended : leading c.sf c.rd (drop i ws) ≡ [] → d ≡ with_movks ws c
  unfolding run
  ended e =
      let k : length (leading c.sf c.rd ws) ≡ i = omega (arith, j.spans, ap length e) in
      let v : left_in c.rd (run (leading c.sf c.rd ws) (write (λ k. 0) c.rd c.value)) ≡ d.value =
      ap (left_in c.rd) (j.runs (λ k. 0) ∙ ap (λ (l : List ℕ). run l (write (λ k. 0) c.rd d.value)) e) ∙ write_same (λ k. 0) c.rd d.value in
      rw (v, k, ← j.sf, ← j.rd, ← j.count) refl

  pub onward : i < length ws → {m : WideMove} → Some m ≡ kept_of d.sf d.rd (wide_of (decode (get_or ws i 0)))
      → {x : ℕ} → x ≡ insert d.value (16 * m.hw) m.imm16 → Going ws c (record { sf = d.sf; rd = d.rd; value = x; count = d.count + 1 }) (i + 1)
  onward l {m} k q =
      let w = get_or ws i 0 in
      let h = kept_some c.sf c.rd (wide_of (decode w)) (rw (j.sf, j.rd) at k) in
      let f = (moves_back w h.1).1 in
      let e = lead l true h.0 in
      rw (add-one i, q, f) (record {
        sf = j.sf;
        rd = j.rd;
        count = omega (arith, j.count);
        size = j.size;
        small = kept-lt c.sf c.rd w h.0 d.value j.small;
        spans = omega (arith, j.spans, ap length e);
        runs = λ R. j.runs R ∙ ap (λ (l : List ℕ). run l (write R c.rd d.value)) e ∙ kept_run c.sf c.rd w h.0 (leading c.sf c.rd (drop (suc i) ws)) R d.value j.small;
      })

  -- what is put in is small
  pub kept_small : (w : ℕ) {m : WideMove} → Some m ≡ kept_of d.sf d.rd (wide_of (decode w)) → (d.value < 2 ^ 64) × (m.hw < 4) × (m.imm16 < 2 ^ 16)
  kept_small w k =
      let s = fields_small w (kept_some d.sf d.rd (wide_of (decode w)) k).1 in
      (lt_of_lt_of_le j.small (size-le c.sf j.size), omega (arith, s.0, s.1), s.2)

  pub stopped : i < length ws → None ≡ kept_of d.sf d.rd (wide_of (decode (get_or ws i 0))) → d ≡ with_movks ws c
  stopped l k = ended (lead l false (kept_none c.sf c.rd (wide_of (decode (get_or ws i 0))) (rw (j.sf, j.rd) at k)))

  pub at-end : length ws ≤ i → i ≤ length ws → d ≡ with_movks ws c
  unfolding leading
  at-end l h = let e : i ≡ length ws = omega arith in ended (ap (λ (n : ℕ). leading c.sf c.rd (drop n ws)) e ∙ ap (leading c.sf c.rd) (drop-length ws))

-- ---- the first word and the MOVK words behind it

module _ {ws : List ℕ} {at : ℕ} {m : WideMove} (f : FirstAt ws at m) where
  w-is : Some m ≡ wide_of (decode (get_or ws at 0))
  w-is = wide_back (get_or ws at 0) f.read

  pub first_ones : {x : ℕ} → x ≡ first_of m → (m.sf < 2) × (x ≤ Ones (datasize m.sf))
  first_ones e = let s = fields_small (get_or ws at 0) w-is in (s.0, rw e (le_ones (datasize m.sf) (first-lt m s)))

  -- the words behind it, as the code takes them
  behind : take (length ws - (at + 1)) (drop (at + 1) ws) ≡ drop (suc at) ws
  behind =
      let n : length ws - (at + 1) ≡ length (drop (suc at) ws) = omega (arith, length-drop (suc at) ws) in
      rw (n, add-one at) (take-length (drop (suc at) ws))

  pub behind_length : at + 1 + length (take (length ws - (at + 1)) (drop (at + 1) ws)) ≡ length ws
  behind_length = omega (arith, f.inside, ap length behind, length-drop (suc at) ws)

  -- its constant ends in the run
  pub joined_within : (d : Constant) {c : Constant} → c ≡ with_movks (take (length ws - (at + 1)) (drop (at + 1) ws)) d → d.count ≡ 1 → at + c.count ≤ length ws
  joined_within d {c} q n =
      let l = leading_le d.sf d.rd (take (length ws - (at + 1)) (drop (at + 1) ws)) in
      let k : c.count ≡ d.count + length (leading d.sf d.rd (take (length ws - (at + 1)) (drop (at + 1) ws))) = ap (λ (e : Constant). e.count) q in
      omega (arith, l, k, behind_length)

  pub joins : {x : ℕ} {c : Constant} {s : Span} → x ≡ first_of m
      → c ≡ with_movks (take (length ws - (at + 1)) (drop (at + 1) ws)) (record { sf = m.sf; rd = m.rd; value = x; count = 1 })
      → s ≡ span at (at + c.count) → Joined c s ≡ joined_of ws at m.sf m.rd
  unfolding joined_of
  joins {x} {c} e q t =
      let ms = leading m.sf m.rd (drop (suc at) ws) in
      let v : left_in m.rd (run ms (write (λ k. 0) m.rd (first_of m))) ≡ value_of m.rd (words_along ws at m.sf m.rd) =
      ap (left_in m.rd) (sym (first_run (get_or ws at 0) w-is f.first ms (λ k. 0))) in
      let n : 1 + length ms ≡ suc (length ms) = omega arith in
      rw (t, q, behind, e, v, n) refl

-- ---- a joined constant is what its words leave, from any content

leads : (sf rd x : ℕ) → x < 2 ^ datasize sf → (ws : List ℕ) → (y : ℕ) × (y < 2 ^ datasize sf) × ((R : Regs) → run (leading sf rd ws) (write R rd x) ≡ some (write R rd y))
unfolding leading run
leads sf rd x l [] = (x, l, λ R. refl)
leads sf rd x l (w ∷ ws) = go (keeps sf rd (wide_of (decode w))) refl (λ y m. leads sf rd y m ws)
  where
    go : (b : Bool) → keeps sf rd (wide_of (decode w)) ≡ b → ((y : ℕ) → y < 2 ^ datasize sf → (z : ℕ) × (z < 2 ^ datasize sf) × ((R : Regs) → run (leading sf rd ws) (write R rd y) ≡ some (write R rd z)))
        → (y : ℕ) × (y < 2 ^ datasize sf) × ((R : Regs) → run (cond b (w ∷ leading sf rd ws) []) (write R rd x) ≡ some (write R rd y))
    go false e ih = (x, l, λ R. refl)
    go true e ih =
        let i = ih (insert x (16 * bits 22 21 w) (bits 20 5 w)) (kept-lt sf rd w e x l) in
        (i.0, i.1, λ R. kept_run sf rd w e (leading sf rd ws) R x l ∙ i.2 R)

-- and it fits its size
pub leaves : {ws : List ℕ} {at : ℕ} {m : WideMove} → FirstAt ws at m
    → let xs = words_along ws at m.sf m.rd in (value_of m.rd xs < 2 ^ datasize m.sf) × ((R : Regs) → run xs R ≡ some (write R m.rd (value_of m.rd xs)))
leaves {ws} {at} {m} f =
    let ms = leading m.sf m.rd (drop (suc at) ws) in
    let s = fields_small (get_or ws at 0) (wide_back (get_or ws at 0) f.read) in
    let i = leads m.sf m.rd (first_of m) (first-lt m s) (drop (suc at) ws) in
    let runs : (R : Regs) → run (get_or ws at 0 ∷ ms) R ≡ some (write R m.rd i.0) = λ R. first_run (get_or ws at 0) (wide_back (get_or ws at 0) f.read) f.first ms R ∙ i.2 R in
    let v : value_of m.rd (get_or ws at 0 ∷ ms) ≡ i.0 = ap (left_in m.rd) (runs (λ k. 0)) ∙ write_same (λ k. 0) m.rd i.0 in
    (rw v i.1, λ R. runs R ∙ ap (λ (k : ℕ). some (write R m.rd k)) (sym v))

-- the span of a constant that went on, by its count
pub went_on : (ws : List ℕ) (c : Constant) {d : Constant} {s : Span} → d ≡ with_movks ws c → s ≡ span 0 (d.count - c.count) → Joined d s ≡ joined_on ws c
unfolding joined_on
went_on ws c q e =
    let n : c.count + length (leading c.sf c.rd ws) - c.count ≡ length (leading c.sf c.rd ws) = omega arith in
    rw (e, q, n) refl

-- where nothing is refused
pub resume_is : (ws : List ℕ) (c : Constant) → c.sf ≤ 1 → c.rd ≤ 30 → c.value ≤ Ones (datasize c.sf) → length ws ≤ 2 ^ 64 - 1 - c.count → Ok (joined_on ws c) ≡ resumed_of ws c
unfolding resumed_of
resume_is ws c a r b d =
    sym (rw (le-ltb 1 c.sf a, le-ltb 30 c.rd r, le-ltb (Ones (datasize c.sf)) c.value b, le-ltb (2 ^ 64 - 1 - c.count) (length ws) d))

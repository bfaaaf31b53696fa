-- The moves and patchable moves of this port are read as the constant that was asked, if no further MOVK to their register and size comes next. Assumes
-- nothing.
use mathlib.Core.Path.{◌≡◌, refl, sym, ap, ◌∙◌}
use mathlib.Core.Bool.{Bool, true, false, cond}
use mathlib.Core.List.{List, [], ◌∷◌, ◌++◌}
use mathlib.Core.Option.{some}
use Prim.Native.Nat.{ℕ, suc, ◌+◌, ◌-◌, ◌%◌, ◌^◌, ◌<◌}
use native.Mathlib.Omega.{arith}
use borrow.Author.Tests.{eq-eqb, ne_eqb}
use lib.Dec.{eqb, leb}
use lib.ListN.{length, drop, get_or, length-drop}
use lib.Seq.{drop-cons}
use Rattle.arm.specs.Bits.{bits}
use Rattle.arm.specs.MoveWide.{Op, op_of, decode, Regs, write, run}
use Rattle.arm.proofs.Wide.{spelled, Sizes, decoded, write_same}
use Rattle.halfwords.specs.Halfwords.{half, count}
use Rattle.moves.specs.Moves.{others, rest, by_movz, by_movn, long, short_by, short, words_of_move}
use Rattle.moves.proofs.Lists.{Halves, others_halves}
use Rattle.moves.proofs.Run.{mov_run}
use Rattle.patchable_moves.specs.Patchable.{patch64, patch32}
use Rattle.patchable_moves.proofs.Run.{patch64_run, patch32_run}
use Rattle.wide_moves.specs.Wide.{opc_of, wide_of}
use Rattle.wide_moves.specs.declared.WideMove.{WideMove}
use Rattle.wide_moves.proofs.Wides.{moves_back}
use Rattle.items.proofs.Cases.{itemed}
use Rattle.reader.specs.declared.Constant.{Constant}
use Rattle.reader.specs.declared.Found.TheVariants.{Joined}
use Rattle.reader.specs.Found.{span, keeps, leading, words_along, left_in, value_of, joined_of, found_of}
use Rattle.std.specs.Prelude.{Some, Ok}
use Rattle.reader.proofs.Finds as finds

abbrev pub constant : (sf rd value count : ℕ) → Constant
constant sf rd value count = record { sf = sf; rd = rd; value = value; count = count }

-- ---- words that are one constant

-- each is a MOVK at the size and the register
abbrev AllKept : ℕ → ℕ → List ℕ → Type 0
AllKept sf rd [] = Unit
AllKept sf rd (w ∷ ws) = (keeps sf rd (wide_of (decode w)) ≡ true) × AllKept sf rd ws

-- "if no further MOVK to a move's register and size comes next"
abbrev pub Ends : ℕ → ℕ → List ℕ → Type 0
Ends sf rd [] = Unit
Ends sf rd (w ∷ ws) = keeps sf rd (wide_of (decode w)) ≡ false

leading_all : (sf rd : ℕ) (ms ts : List ℕ) → AllKept sf rd ms → Ends sf rd ts → leading sf rd (ms ++ ts) ≡ ms
unfolding leading
leading_all sf rd [] [] k e = refl
leading_all sf rd [] (t ∷ ts) k e = rw e
leading_all sf rd (w ∷ ms) ts k e = rw (k.0, leading_all sf rd ms ts k.1 e)

-- a MOVZ or MOVN, and MOVK words at its size and register
record IsMove (sf rd : ℕ) (xs : List ℕ) : Type 0 where
  w : ℕ
  ms : List ℕ
  is : xs ≡ w ∷ ms
  m : WideMove
  read : Some m ≡ wide_of (decode w)
  first : m.opc ≡ 3 → ⊥
  sf_is : m.sf ≡ sf
  rd_is : m.rd ≡ rd
  kept : AllKept sf rd ms

-- the size of the first word: 1 at 64, 0 at 32
abbrev pub size_of : List ℕ → ℕ
size_of [] = 0
size_of (w ∷ ws) = bits 31 31 w

sized : {sf rd : ℕ} {xs : List ℕ} → IsMove sf rd xs → size_of xs ≡ sf
sized t = ap size_of t.is ∙ sym (ap (λ (m : WideMove). m.sf) (moves_back t.w t.read).1) ∙ t.sf_is

read_moved : {sf rd : ℕ} {xs : List ℕ} → IsMove sf rd xs → (v : ℕ) → ((R : Regs) → run xs R ≡ some (write R rd v))
    → (ws : List ℕ) (at : ℕ) (ts : List ℕ) → drop at ws ≡ xs ++ ts → Ends sf rd ts
    → found_of ws at ≡ Ok (Joined (constant sf rd v (length xs)) (span at (at + length xs)))
unfolding joined_of
read_moved {sf} {rd} {xs} t v runs ws at ts e end =
    let d : drop at ws ≡ t.w ∷ (t.ms ++ ts) = e ∙ ap (λ (l : List ℕ). l ++ ts) t.is in
    let n : length ws - at ≡ suc (length (t.ms ++ ts)) = sym (length-drop at ws) ∙ ap length d in
    let l : at < length ws = omega arith in
    let c = sym (drop-cons ws at 0 l) ∙ d in
    let head : get_or ws at 0 ≡ t.w = ap (λ (l : List ℕ). get_or l 0 0) c in
    let tail : drop (suc at) ws ≡ t.ms ++ ts = ap (drop 1) c in
    let lead : leading sf rd (drop (suc at) ws) ≡ t.ms = ap (leading sf rd) tail ∙ leading_all sf rd t.ms ts t.kept end in
    let all : words_along ws at sf rd ≡ xs = rw (head, lead) (sym t.is) in
    let value : value_of rd xs ≡ v = ap (left_in rd) (runs (λ k. 0)) ∙ write_same (λ k. 0) rd v in
    let j : joined_of ws at sf rd ≡ Joined (constant sf rd (value_of rd xs) (length xs)) (span at (at + length xs)) =
    ap (λ (l : List ℕ). Joined (constant sf rd (value_of rd l) (length l)) (span at (at + length l))) all in
    sym (finds.first ws at l {m = t.m} (rw head (itemed t.w t.read)) t.first) ∙ ap Ok (rw (t.sf_is, t.rd_is) (j ∙ rw value))

-- ---- the words of this port

wide_spelled : (sf opc hw imm rd : ℕ) → Sizes sf opc hw imm rd → {op : Op} → op_of opc ≡ some op → opc_of op ≡ opc
    → Some (record { sf = sf; opc = opc; hw = hw; imm16 = imm; rd = rd }) ≡ wide_of (decode (spelled sf opc hw imm rd))
wide_spelled sf opc hw imm rd l e b = sym (rw (decoded sf opc hw imm rd l e, ne_eqb rd 31 (λ q. omega (arith, l.Rd_is)), b))

kept_spelled : (sf hw imm rd : ℕ) → Sizes sf 3 hw imm rd → keeps sf rd (wide_of (decode (spelled sf 3 hw imm rd))) ≡ true
kept_spelled sf hw imm rd l = rw (← wide_spelled sf 3 hw imm rd l refl refl, eq-eqb sf sf refl, eq-eqb rd rd refl)

first_spelled : (sf opc hw imm rd : ℕ) → Sizes sf opc hw imm rd → {op : Op} → op_of opc ≡ some op → opc_of op ≡ opc → (opc ≡ 3 → ⊥) → (ms : List ℕ) → AllKept sf rd ms
    → IsMove sf rd (spelled sf opc hw imm rd ∷ ms)
first_spelled sf opc hw imm rd l e b n ms k = record {
  w = spelled sf opc hw imm rd;
  ms = ms;
  is = refl;
  m = record { sf = sf; opc = opc; hw = hw; imm16 = imm; rd = rd };
  read = wide_spelled sf opc hw imm rd l e b;
  first = n;
  sf_is = refl;
  rd_is = refl;
  kept = k;
}

-- at a size that is the first word's
abbrev Move : ℕ → List ℕ → Type 0
Move rd xs = (sf : ℕ) × IsMove sf rd xs

module _ (rd : ℕ) (rd_is : rd < 31) where
  rest_kept : (ps : List (ℕ × ℕ)) → Halves ps → AllKept 1 rd (rest ps rd)
  rest_kept [] hs = tt
  rest_kept ((k, h) ∷ ps) hs = (kept_spelled 1 k h rd (omega arith), rest_kept ps hs.2)

  movz_is : (ps : List (ℕ × ℕ)) → Halves ps → Move rd (by_movz ps rd)
  movz_is [] hs = (1, first_spelled 1 2 0 0 rd (omega arith) refl refl (λ q. omega arith) [] tt)
  movz_is ((k, h) ∷ ps) hs = (1, first_spelled 1 2 k h rd (omega arith) refl refl (λ q. omega arith) (rest ps rd) (rest_kept ps hs.2))

  movn_is : (ps : List (ℕ × ℕ)) → Halves ps → Move rd (by_movn ps rd)
  movn_is [] hs = (1, first_spelled 1 0 0 0 rd (omega arith) refl refl (λ q. omega arith) [] tt)
  movn_is ((k, h) ∷ ps) hs = (1, first_spelled 1 0 k (0xFFFF - h) rd (omega arith) refl refl (λ q. omega arith) (rest ps rd) (rest_kept ps hs.2))

  short_is : (hi lo : ℕ) → hi < 2 ^ 16 → lo < 2 ^ 16 → (a b c d : Bool) → Move rd (short_by a b c d hi lo rd)
  short_is hi lo hl ll true b c d = (1, first_spelled 1 2 0 lo rd (omega arith) refl refl (λ q. omega arith) [] tt)
  short_is hi lo hl ll false true c d = (0, first_spelled 0 0 0 (0xFFFF - lo) rd (omega arith) refl refl (λ q. omega arith) [] tt)
  short_is hi lo hl ll false false true d = (1, first_spelled 1 2 1 hi rd (omega arith) refl refl (λ q. omega arith) [] tt)
  short_is hi lo hl ll false false false true = (0, first_spelled 0 0 1 (0xFFFF - hi) rd (omega arith) refl refl (λ q. omega arith) [] tt)
  short_is hi lo hl ll false false false false = movz_is ((0, lo) ∷ (1, hi) ∷ []) (omega arith)

  mov_is : (v : ℕ) → Move rd (words_of_move v rd)
  unfolding words_of_move long short
  mov_is v = go (leb v 0xFFFFFFFF) (leb (count 0xFFFF v) (count 0 v))
    where
      go : (a b : Bool) → Move rd (cond a (short (half v 1) (half v 0) rd) (cond b (by_movz (others 0 v) rd) (by_movn (others 0xFFFF v) rd)))
      go true b = short_is (half v 1) (half v 0) (omega arith) (omega arith) (eqb (half v 1) 0) (eqb (half v 1) 0xFFFF) (eqb (half v 0) 0) (eqb (half v 0) 0xFFFF)
      go false true = movz_is (others 0 v) (others_halves 0 v)
      go false false = movn_is (others 0xFFFF v) (others_halves 0xFFFF v)

  module _ (ws : List ℕ) (at : ℕ) (ts : List ℕ) (v : ℕ) where
    pub mov_read : v < 2 ^ 64 → let xs = words_of_move v rd in drop at ws ≡ xs ++ ts → Ends (size_of xs) rd ts
        → found_of ws at ≡ Ok (Joined (constant (size_of xs) rd v (length xs)) (span at (at + length xs)))
    mov_read l e end = let t = mov_is v in rw (sized t.1) (read_moved t.1 v (mov_run rd rd_is v l) ws at ts e (rw (sized t.1) at end))

    patch64_is : IsMove 1 rd (patch64 v rd)
    unfolding patch64
    patch64_is =
        first_spelled 1 2 0 (half v 0) rd (omega arith) refl refl (λ q. omega arith) _
        (rest_kept ((1, half v 1) ∷ (2, half v 2) ∷ (3, half v 3) ∷ []) (omega arith))

    patch32_is : IsMove 0 rd (patch32 v rd)
    unfolding patch32
    patch32_is = first_spelled 0 2 0 (half v 0) rd (omega arith) refl refl (λ q. omega arith) _ (kept_spelled 0 1 (half v 1) rd (omega arith), tt)

    -- and so are patchable moves
    pub patch64_read : v < 2 ^ 64 → drop at ws ≡ patch64 v rd ++ ts → Ends 1 rd ts → found_of ws at ≡ Ok (Joined (constant 1 rd v 4) (span at (at + 4)))
    unfolding patch64
    patch64_read l = read_moved patch64_is v (patch64_run rd rd_is v l) ws at ts

    pub patch32_read : drop at ws ≡ patch32 v rd ++ ts → Ends 0 rd ts → found_of ws at ≡ Ok (Joined (constant 0 rd (v % 2 ^ 32) 2) (span at (at + 2)))
    unfolding patch32
    patch32_read = read_moved patch32_is (v % 2 ^ 32) (patch32_run rd rd_is v) ws at ts

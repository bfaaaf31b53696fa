-- A run in pieces: an item that ends before a piece's last word is the item of the whole run, a piece's positions count from its start, and a constant
-- that reaches a piece's end goes on in the next. Assumes nothing.
use mathlib.Core.Path.{◌≡◌, refl, sym, ap, ap₂, ◌∙◌}
use mathlib.Core.Bool.{Bool, true, false, cond}
use mathlib.Core.List.{List, [], ◌∷◌, ◌++◌}
use mathlib.Core.Option.{Option, none, some, none-ne-some}
use Prim.Native.Nat.{ℕ, suc, ◌+◌, ◌-◌, ◌%◌, ◌^◌, ◌≤◌, ◌<◌}
use native.Mathlib.Nat.{add-suc}
use native.Mathlib.Omega.{arith}
use borrow.Author.Tests.{ltb-true, ltb-false, eqb-true, eqb-false}
use lib.Dec.{eqb, ltb}
use lib.ListN.{length, take, drop, get_or, length-append, length-drop, get_or-append}
use lib.Pow.{le_ones}
use lib.Seq.{take-length, drop-append-le, get_or-drop, drop-drop}
use Rattle.arm.specs.Bits.{bits}
use Rattle.arm.specs.MoveWide.{Wide, decode, Regs, write, datasize, exec, then, run}
use Rattle.std.specs.Prelude.{Ok, Err, Result}
use Rattle.words.specs.declared.Refusal.{Refusal}
use Rattle.words.specs.declared.Refusal.TheVariants.{NoRoom}
use Rattle.wide_moves.specs.Wide.{wide_of}
use Rattle.wide_moves.proofs.Wides.{fields_of, moves_back}
use Rattle.items.specs.declared.Item.{Item}
use Rattle.items.specs.declared.Item.TheVariants as item
use Rattle.items.specs.Items.{item_of}
use Rattle.items.proofs.Cases.{wide_back}
use Rattle.reader.specs.declared.Constant.{Constant}
use Rattle.reader.specs.declared.Found.{Found}
use Rattle.reader.specs.declared.Found.TheVariants.{Joined, Single, End}
use Rattle.reader.specs.declared.Span.{Span}
use Rattle.reader.specs.Found.{span, keeps, leading, words_along, left_in, value_of, joined_of, joined_on, resumed_of, found_item, found_of}
use Rattle.reader.specs.Cover.{found_span, span_of, found_moved, moved_by, gone_on}
use Rattle.reader.proofs.Joins.{leaves, resume_is}
use Rattle.reader.proofs.Constants.{leading_take, the_found, comes_from}
use Rattle.reader.proofs.Constants as constants
use Rattle.reader.proofs.Finds as finds

-- ---- what the words of a constant are decides it

abbrev joined_by : ℕ → ℕ → ℕ → List ℕ → Found
joined_by at sf rd ms = Joined (record { sf = sf; rd = rd; value = value_of rd ms; count = length ms }) (span at (at + length ms))

same_joined : (ws vs : List ℕ) (at sf rd : ℕ) → words_along ws at sf rd ≡ words_along vs at sf rd → joined_of ws at sf rd ≡ joined_of vs at sf rd
unfolding joined_of
same_joined ws vs at sf rd e = ap (joined_by at sf rd) e

-- ---- behind a piece

leading_local : (sf rd : ℕ) (a b : List ℕ) → length (leading sf rd a) < length a → leading sf rd (a ++ b) ≡ leading sf rd a
unfolding leading
leading_local sf rd [] b h = absurd (omega arith)
leading_local sf rd (w ∷ a) b h = go (keeps sf rd (wide_of (decode w))) (λ l. leading_local sf rd a b l) h
  where
    go : (t : Bool) → (length (leading sf rd a) < length a → leading sf rd (a ++ b) ≡ leading sf rd a)
        → length (cond t (w ∷ leading sf rd a) []) < suc (length a) → cond t (w ∷ leading sf rd (a ++ b)) [] ≡ cond t (w ∷ leading sf rd a) []
    go true ih l = ap (λ (x : List ℕ). w ∷ x) (ih (omega arith))
    go false ih l = refl

module _ (a b : List ℕ) (at : ℕ) (l : at < length a) where
  item_local : (i : Item) {s : Span} → found_span (found_item a at i) ≡ some s → s.next.0 < length a → found_item (a ++ b) at i ≡ found_item a at i
  unfolding joined_of
  item_local (item.Wide m) {s} e h = go (eqb m.opc 3) e
    where
      out : {x y : Span} → some x ≡ some y → x ≡ y
      out q = cc

      go : (t : Bool) → found_span (cond t (Single (item.Wide m) (span at (at + 1))) (joined_of a at m.sf m.rd)) ≡ some s
          → cond t (Single (item.Wide m) (span at (at + 1))) (joined_of (a ++ b) at m.sf m.rd) ≡ cond t (Single (item.Wide m) (span at (at + 1))) (joined_of a at m.sf m.rd)
      go true q = refl
      go false q =
          let n : at + length (words_along a at m.sf m.rd) ≡ s.next.0 = ap (λ (k : Span). k.next.0) (out q) in
          let short : length (leading m.sf m.rd (drop (suc at) a)) < length (drop (suc at) a) = omega (arith, length-drop (suc at) a) in
          let tail = ap (leading m.sf m.rd) (drop-append-le (suc at) a b l) ∙ leading_local m.sf m.rd (drop (suc at) a) b short in
          same_joined (a ++ b) a at m.sf m.rd (ap₂ (λ (x : ℕ) (xs : List ℕ). x ∷ xs) (get_or-append a b 0 at l) tail)
  item_local (item.Logical x) e h = refl
  item_local (item.Displaced x) e h = refl
  item_local (item.Unknown x) e h = refl

-- an item that ends before the last word of a piece is not changed by what follows the piece
pub local : (a b : List ℕ) (at : ℕ) (s : Span) → at < length a → span_of (found_of a at) ≡ some s → s.next.0 < length a → found_of (a ++ b) at ≡ found_of a at
local a b at s l e h =
    let k : at < length (a ++ b) = omega (arith, length-append a b) in
    finds.inside (a ++ b) at k ∙ ap (λ (x : ℕ). Ok (found_item (a ++ b) at (item_of x))) (get_or-append a b 0 at l)
    ∙ ap Ok (item_local a b at l (item_of (get_or a at 0)) (sym (ap span_of (finds.inside a at l)) ∙ e) h) ∙ sym (finds.inside a at l)

-- and an item of one word is not, wherever it ends
pub local_single : (a b : List ℕ) (at : ℕ) (i : Item) (s : Span) → found_of a at ≡ Ok (Single i s) → found_of (a ++ b) at ≡ Ok (Single i s)
unfolding joined_of
local_single a b at i s e = go (ltb at (length a)) refl
  where
    no_joined : {c : Constant} {n : Span} → Joined c n ≡ Single i s → ⊥
    no_joined q = let z : ◌≡◌ {A = ℕ} 0 1 = cc in omega arith

    no_end : ◌≡◌ {A = Result Found Refusal} (Ok End) (Ok (Single i s)) → ⊥
    no_end q = let z : ◌≡◌ {A = ℕ} 0 1 = cc in omega arith

    no_past : Err NoRoom ≡ Ok (Single i s) → ⊥
    no_past q = let z : ◌≡◌ {A = ℕ} 0 1 = cc in omega arith

    same : (j : Item) → found_item a at j ≡ Single i s → found_item (a ++ b) at j ≡ Single i s
    same (item.Wide m) q = by_opc (eqb m.opc 3) q
      where
        by_opc : (t : Bool) → cond t (Single (item.Wide m) (span at (at + 1))) (joined_of a at m.sf m.rd) ≡ Single i s
            → cond t (Single (item.Wide m) (span at (at + 1))) (joined_of (a ++ b) at m.sf m.rd) ≡ Single i s
        by_opc true q = q
        by_opc false q = absurd (no_joined q)
    same (item.Logical x) q = q
    same (item.Displaced x) q = q
    same (item.Unknown x) q = q

    outside : (t : Bool) → eqb (length a) at ≡ t → length a ≤ at → found_of (a ++ b) at ≡ Ok (Single i s)
    outside true p h = absurd (no_end (finds.end a at (eqb-true _ _ p) ∙ e))
    outside false p h = let n : length a ≡ at → ⊥ = eqb-false _ _ p in absurd (no_past (finds.past a at (omega arith) ∙ e))

    go : (t : Bool) → ltb at (length a) ≡ t → found_of (a ++ b) at ≡ Ok (Single i s)
    go true p =
        let l : at < length a = ltb-true _ _ p in
        let k : at < length (a ++ b) = omega (arith, length-append a b) in
        finds.inside (a ++ b) at k ∙ ap (λ (x : ℕ). Ok (found_item (a ++ b) at (item_of x))) (get_or-append a b 0 at l)
        ∙ ap Ok (same (item_of (get_or a at 0)) (the_found (sym (finds.inside a at l) ∙ e)))
    go false p = outside (eqb (length a) at) refl (ltb-false _ _ p)

-- ---- from a piece's start

module _ (k : ℕ) (ws : List ℕ) (at : ℕ) where
  item_shifted : (i : Item) → found_item ws (k + at) i ≡ found_moved k (found_item (drop k ws) at i)
  unfolding joined_of
  item_shifted (item.Wide m) = go (eqb m.opc 3)
    where
      words : words_along ws (k + at) m.sf m.rd ≡ words_along (drop k ws) at m.sf m.rd
      words =
          let e : k + suc at ≡ suc (k + at) = add-suc k at in
          ap₂ (λ (x : ℕ) (xs : List ℕ). x ∷ leading m.sf m.rd xs) (sym (get_or-drop k ws at 0)) (ap (λ (j : ℕ). drop j ws) (sym e) ∙ sym (drop-drop (suc at) k ws))

      sum : (x : ℕ) → k + at + x ≡ k + (at + x)
      sum x = omega arith

      go : (t : Bool) → cond t (Single (item.Wide m) (span (k + at) (k + at + 1))) (joined_of ws (k + at) m.sf m.rd) ≡ found_moved k (cond t (Single (item.Wide m) (span at (at + 1))) (joined_of (drop k ws) at m.sf m.rd))
      go true = ap (λ (n : ℕ). Single (item.Wide m) (span (k + at) n)) (sum 1)
      go false =
          let ms = words_along (drop k ws) at m.sf m.rd in
          ap (joined_by (k + at) m.sf m.rd) words ∙ ap (λ (n : ℕ). Joined (record { sf = m.sf; rd = m.rd; value = value_of m.rd ms; count = length ms }) (span (k + at) n)) (sum (length ms))
  item_shifted (item.Logical x) = let e : k + at + 1 ≡ k + (at + 1) = omega arith in ap (λ (n : ℕ). Single (item.Logical x) (span (k + at) n)) e
  item_shifted (item.Displaced x) = let e : k + at + 1 ≡ k + (at + 1) = omega arith in ap (λ (n : ℕ). Single (item.Displaced x) (span (k + at) n)) e
  item_shifted (item.Unknown x) = let e : k + at + 1 ≡ k + (at + 1) = omega arith in ap (λ (n : ℕ). Single (item.Unknown x) (span (k + at) n)) e

  pub shifted : k ≤ length ws → found_of ws (k + at) ≡ moved_by k (found_of (drop k ws) at)
  shifted h = go (ltb at (length (drop k ws))) refl (eqb (length (drop k ws)) at) refl
    where
      n : length (drop k ws) ≡ length ws - k
      n = length-drop k ws

      go : (b : Bool) → ltb at (length (drop k ws)) ≡ b → (c : Bool) → eqb (length (drop k ws)) at ≡ c → found_of ws (k + at) ≡ moved_by k (found_of (drop k ws) at)
      go true e c f =
          let l : at < length (drop k ws) = ltb-true _ _ e in
          finds.inside ws (k + at) (omega (arith, n)) ∙ ap (λ (x : ℕ). Ok (found_item ws (k + at) (item_of x))) (sym (get_or-drop k ws at 0))
          ∙ ap Ok (item_shifted (item_of (get_or (drop k ws) at 0))) ∙ sym (ap (moved_by k) (finds.inside (drop k ws) at l))
      go false e true f =
          let l : length (drop k ws) ≡ at = eqb-true _ _ f in
          sym (finds.end ws (k + at) (omega (arith, n))) ∙ ap (moved_by k) (finds.end (drop k ws) at l)
      go false e false f =
          let l : length (drop k ws) ≤ at = ltb-false _ _ e in
          let m : length (drop k ws) ≡ at → ⊥ = eqb-false _ _ f in
          sym (finds.past ws (k + at) (omega (arith, n))) ∙ ap (moved_by k) (finds.past (drop k ws) at (omega arith))

-- ---- a constant that reaches a piece's end goes on in the next

leading_on : (sf rd : ℕ) (l b : List ℕ) → leading sf rd l ≡ l → leading sf rd (l ++ b) ≡ l ++ leading sf rd b
unfolding leading
leading_on sf rd [] b e = refl
leading_on sf rd (w ∷ l) b e = go (keeps sf rd (wide_of (decode w))) (λ q. leading_on sf rd l b q) e
  where
    go : (t : Bool) → (leading sf rd l ≡ l → leading sf rd (l ++ b) ≡ l ++ leading sf rd b) → cond t (w ∷ leading sf rd l) [] ≡ w ∷ l
        → cond t (w ∷ leading sf rd (l ++ b)) [] ≡ w ∷ (l ++ leading sf rd b)
    go true ih q = ap (λ (x : List ℕ). w ∷ x) (ih (ap (drop 1) q))
    go false ih q = let z : ◌≡◌ {A = ℕ} 0 (suc (length l)) = ap length q in absurd (omega arith)

run_on : (xs ys : List ℕ) (R S : Regs) → run xs R ≡ some S → run (xs ++ ys) R ≡ run ys S
unfolding run
run_on [] ys R S e = let q : R ≡ S = cc in ap (run ys) q
run_on (x ∷ xs) ys R S e = go (decode x) (λ R. run_on xs ys R S) e
  where
    go : (d : Option Wide) → ((R : Regs) → run xs R ≡ some S → run (xs ++ ys) R ≡ run ys S)
        → then d (λ m. run xs (exec m R)) ≡ some S → then d (λ m. run (xs ++ ys) (exec m R)) ≡ run ys S
    go none ih q = absurd (none-ne-some _ q)
    go (some m) ih q = ih (exec m R) q

parts : (at sf rd : ℕ) {x y n m p q : ℕ} → x ≡ y → n ≡ m → p ≡ q
    → Joined (record { sf = sf; rd = rd; value = x; count = n }) (span at p) ≡ Joined (record { sf = sf; rd = rd; value = y; count = m }) (span at q)
parts at sf rd e f g = rw (e, f, g)

-- a constant that reaches the end of a piece is the whole run's once the MOVK words at the start of the next piece have entered it
pub carried : (a b : List ℕ) (at : ℕ) (c : Constant) → found_of a at ≡ Ok (Joined c (span at (length a))) → c.count + length b < 2 ^ 64
    → found_of (a ++ b) at ≡ gone_on at (length a) (resumed_of b c)
unfolding joined_of joined_on
carried a b at c e fits =
    let t = comes_from a at c (span at (length a)) e in
    let w = get_or a at 0 in
    let sf = bits 31 31 w in
    let rd = w % 32 in
    let l = t.first.inside in
    let s = constants.same_joined t.joined in
    let ends : at + length (words_along a at sf rd) ≡ length a = ap (λ (k : Span). k.next.0) s.1 in
    let r = (moves_back w (wide_back w t.first.read)).0.register in
    let rest = drop (suc at) a in
    let ms = leading sf rd b in
    let full : length (leading sf rd rest) ≡ length rest = omega (arith, ends, length-drop (suc at) a) in
    let all : leading sf rd rest ≡ rest = leading_take sf rd rest ∙ ap (λ (n : ℕ). take n rest) full ∙ take-length rest in
    let words : words_along (a ++ b) at sf rd ≡ w ∷ (rest ++ ms) =
    ap₂ (λ (x : ℕ) (xs : List ℕ). x ∷ xs) (get_or-append a b 0 at l) (ap (leading sf rd) (drop-append-le (suc at) a b l) ∙ leading_on sf rd rest b all) in
    let lv = leaves t.first in
    let v = value_of rd (words_along a at sf rd) in
    let value : value_of rd (w ∷ (rest ++ ms)) ≡ left_in rd (run ms (write (λ k. 0) rd v)) =
    ap (left_in rd) (run_on (w ∷ rest) ms (λ k. 0) (write (λ k. 0) rd v) (ap (λ (x : List ℕ). run (w ∷ x) (λ k. 0)) (sym all) ∙ lv.1 (λ k. 0))) in
    let d : Constant = record { sf = sf; rd = rd; value = v; count = length (words_along a at sf rd) } in
    let k : at < length (a ++ b) = omega (arith, length-append a b) in
    let count : length (w ∷ (rest ++ ms)) ≡ d.count + length ms = omega (arith, length-append rest ms, full) in
    let next : at + length (w ∷ (rest ++ ms)) ≡ length a + length ms = omega (arith, count, ends) in
    let same_count : d.count ≡ c.count = ap (λ (x : Constant). x.count) s.0 in
    let fine : Ok (joined_on b d) ≡ resumed_of b d = resume_is b d (omega arith) (omega arith) (le_ones (datasize sf) lv.0) (omega arith) in
    sym (finds.first (a ++ b) at k {m = fields_of w} (rw (get_or-append a b 0 at l) t.first.read) t.first.first)
    ∙ ap Ok (ap (joined_by at sf rd) words ∙ parts at sf rd value count next) ∙ ap (gone_on at (length a)) fine ∙ ap (λ (x : Constant). gone_on at (length a) (resumed_of b x)) s.0

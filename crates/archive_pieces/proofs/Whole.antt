-- An archive in pieces is told as the whole one is, however it is cut. Assumes nothing.
use mathlib.Core.Path.{◌≡◌, refl, sym, ap, subst, ◌∙◌}
use mathlib.Core.Bool.{Bool, true, false, cond}
use mathlib.Core.List.{List, [], ◌∷◌, ◌++◌, append-nil, append_assoc}
use Prim.Native.Nat.{ℕ, ◌+◌, ◌^◌, ◌≤◌, ◌<◌}
use native.Mathlib.Nat.{add-zero}
use native.Mathlib.Omega.{arith}
use borrow.Author.Tests.{eqb-true, eqb-false}
use lib.Dec.{eqb}
use lib.ListN.{length, drop, length-append, length-drop}
use lib.Seq.{drop-append-le, drop-append-add, drop-drop}
use Rattle.items.specs.declared.Item.{Item}
use Rattle.reader.specs.declared.Constant.{Constant}
use Rattle.reader.specs.declared.Span.{Span}
use Rattle.reader.specs.declared.Found.{Found}
use Rattle.reader.specs.declared.Found.TheVariants as found
use Rattle.reader.specs.Found.{span, found_of, resumed_of}
use Rattle.reader.specs.Cover.{span_of, moved_by, gone_on}
use Rattle.reader.proofs.Finds as finds
use Rattle.reader.proofs.Constants.{constant_leaves}
use Rattle.reader.proofs.Local.{local, local_single, shifted, carried}
use Rattle.archive_pieces.specs.declared.Told.{Told}
use Rattle.archive_pieces.specs.declared.Told.TheVariants.{Joined, Single}
use Rattle.std.specs.Prelude.{None, Some, Ok, Err, Result}
use Rattle.words.specs.declared.Refusal.{Refusal}
use Rattle.archive_pieces.specs.declared.Step.{Step}
use Rattle.archive_pieces.specs.declared.Step.TheVariants.{Tell, Carry}
use Rattle.archive_pieces.specs.Steps.{Carried, begun, begins_of, goes_on_of, step_of}
use Rattle.archive_pieces.specs.Archive.{Items, end, joined, single, on_by, Pieces, last, tells, carries, joined_up}
use Rattle.archive_pieces.specs.Archive as archive
use Rattle.archive_pieces.proofs.Forward.{spans_of, empty, Resumed, goes, refused, resumed, tell_back, carry_back, carry_tell}

-- what is carried into a piece: no words, or those of a constant, which begins at a position
abbrev Keeps : Carried → List ℕ → ℕ → Type 0
Keeps None [] p = Unit
Keeps None (w ∷ a) p = ⊥
Keeps (Some b) a p = (found_of a 0 ≡ Ok (found.Joined b.constant (span 0 (length a)))) × (b.at ≡ p)

-- ---- a step, by what it says of the words that were carried and those of the piece

data Says (a ws : List ℕ) (p : ℕ) : Step → Type 0 where
  alone : {i : Item} {s : Span} → length a ≡ 0 → found_of (a ++ ws) 0 ≡ Ok (found.Single i s) → Says a ws p (Tell (Single i p) s.next.0)
  stops : {c : Constant} {n : ℕ} → found_of (a ++ ws) 0 ≡ Ok (found.Joined c (span 0 (length a + n))) → (n ≡ length ws → ⊥) → Says a ws p (Tell (Joined c p) n)
  goes_on_lem : {c : Constant} → found_of (a ++ ws) 0 ≡ Ok (found.Joined c (span 0 (length a + length ws))) → Says a ws p (Carry (Some (begun c p)))
  over : length (a ++ ws) ≡ 0 → Says a ws p (Carry None)

-- a constant that ends in the piece or reaches its end
reaches : (a ws : List ℕ) (p : ℕ) (c : Constant) (n : ℕ) → found_of (a ++ ws) 0 ≡ Ok (found.Joined c (span 0 (length a + n)))
    → Says a ws p (cond (eqb n (length ws)) (Carry (Some (begun c p))) (Tell (Joined c p) n))
reaches a ws p c n e = go (eqb n (length ws)) refl
  where
    go : (b : Bool) → eqb n (length ws) ≡ b → Says a ws p (cond b (Carry (Some (begun c p))) (Tell (Joined c p) n))
    go true q = goes_on_lem (e ∙ ap (λ (m : ℕ). Ok (found.Joined c (span 0 (length a + m)))) (eqb-true _ _ q))
    go false q = stops e (eqb-false _ _ q)

says_first : (ws : List ℕ) (p : ℕ) (f : Result Found Refusal) → found_of ws 0 ≡ f → Says [] ws p (begins_of ws p f)
says_first ws p (Ok (found.Joined c s)) e =
    let q = (spans_of ws s (ap span_of e)).stands in
    let z : s.next.0 ≡ 0 + s.next.0 = omega arith in
    reaches [] ws p c s.next.0 (e ∙ ap (λ (n : Span). Ok (found.Joined c n)) (q ∙ ap (span 0) z))
says_first ws p (Ok (found.Single i s)) e = alone refl e
says_first ws p (Ok found.End) e = over (empty ws (ap span_of e))
says_first ws p (Err r) e = over (empty ws (ap span_of e))

module _ (a ws : List ℕ) (p : ℕ) (c : Constant) (e : found_of a 0 ≡ Ok (found.Joined c (span 0 (length a)))) (fits : length a + length ws < 2 ^ 64) where
  says_next : {f : Result Found Refusal} → Resumed ws f → found_of (a ++ ws) 0 ≡ gone_on 0 (length a) f → Says a ws p (goes_on_of ws (begun c p) f)
  says_next (goes {d} {n} h) q = reaches a ws p d n q
  says_next refused q =
      let none : length (a ++ ws) ≡ 0 = empty (a ++ ws) (ap span_of q) in
      let more = (spans_of a (span 0 (length a)) (ap span_of e)).later in
      absurd (omega (arith, none, more, length-append a ws))

  says_carried : Says a ws p (goes_on_of ws (begun c p) (resumed_of ws c))
  says_carried =
      let n : length a ≡ c.count = ap (λ (s : Span). s.next.0) (constant_leaves a 0 c (span 0 (length a)) e).stands ∙ omega arith in
      says_next (resumed ws c) (carried a ws 0 c e (omega (arith, n)))

says : (k : Carried) (a ws : List ℕ) (p at : ℕ) → Keeps k a p → at ≡ p + length a → length a + length ws < 2 ^ 64 → Says a ws p (step_of ws at k)
unfolding step_of
says None [] ws p at h e fits = let q : at ≡ p = omega (arith, e) in rw q (says_first ws p (found_of ws 0) refl)
says None (w ∷ a) ws p at h e fits = absurd h
says (Some b) a ws p at h e fits =
    subst (λ (n : ℕ). Says a ws p (goes_on_of ws (begun b.constant n) (resumed_of ws b.constant))) (sym h.1) (says_carried a ws p b.constant h.0 fits)

-- ---- the first item of what is left

data First (ws : List ℕ) (p : ℕ) : Told → ℕ → Type 0 where
  constant : {c : Constant} {n : ℕ} → found_of ws 0 ≡ Ok (found.Joined c (span 0 n)) → First ws p (Joined c p) n
  word : {i : Item} {n : ℕ} → found_of ws 0 ≡ Ok (found.Single i (span 0 n)) → First ws p (Single i p) n

module _ (a ws b : List ℕ) (p : ℕ) (t : Told) (n : ℕ) where
  told_first : {x : Step} → Says a ws p x → x ≡ Tell t n → First (a ++ (ws ++ b)) p t (length a + n) × (n ≤ length ws)
  told_first (alone {i} {s} z e) q =
      let m = spans_of (a ++ ws) s (ap span_of e) in
      let o = tell_back q in
      let n-is : s.next.0 ≡ length a + n = omega (arith, z, o.1) in
      let all = sym (ap (λ (l : List ℕ). found_of l 0) (append_assoc a ws b)) ∙ local_single (a ++ ws) b 0 i s e ∙ ap (λ (n : Span). Ok (found.Single i n)) (m.stands ∙ ap (span 0) n-is) in
      (rw (← o.0) (word all), omega (arith, m.within, length-append a ws, z, o.1))
  told_first (stops {c} {n = m} e f) q =
      let s = span 0 (length a + m) in
      let w = (spans_of (a ++ ws) s (ap span_of e)).within in
      let o = tell_back q in
      let l : m < length ws = omega (arith, w, length-append a ws, f) in
      let inside : 0 < length (a ++ ws) = omega (arith, l, length-append a ws) in
      let all = sym (ap (λ (l : List ℕ). found_of l 0) (append_assoc a ws b)) ∙ local (a ++ ws) b 0 s inside (ap span_of e) (omega (arith, l, length-append a ws)) ∙ e
      ∙ ap (λ (j : ℕ). Ok (found.Joined c (span 0 (length a + j)))) o.1 in
      (rw (← o.0) (constant all), omega (arith, l, o.1))
  told_first (goes_on_lem e) q = absurd (carry_tell q)
  told_first (over e) q = absurd (carry_tell q)

nothing_left : (a : List ℕ) (p : ℕ) → length a ≡ 0 → Keeps None a p
nothing_left [] p e = tt
nothing_left (w ∷ a) p e = absurd (omega arith)

module _ (a ws : List ℕ) (p : ℕ) (l : Carried) where
  carried_on : {x : Step} → Says a ws p x → x ≡ Carry l → Keeps l (a ++ ws) p
  carried_on (alone z e) q = absurd (carry_tell (sym q))
  carried_on (stops e f) q = absurd (carry_tell (sym q))
  carried_on (goes_on_lem {c} e) q = rw (← carry_back q) (e ∙ ap (λ (n : ℕ). Ok (found.Joined c (span 0 n))) (sym (length-append a ws)), refl)
  carried_on (over e) q = rw (← carry_back q) (nothing_left (a ++ ws) p e)

-- ---- all pieces

-- what is found from a position on, at the start of what is left there
from : (ws : List ℕ) (p : ℕ) → p ≤ length ws → found_of ws p ≡ moved_by p (found_of (drop p ws) 0)
from ws p h = ap (found_of ws) (sym (add-zero p)) ∙ shifted p ws 0 h

reads : (ws : List ℕ) (p : ℕ) {t : Told} {n : ℕ} {ts : List Told} → p ≤ length ws → First (drop p ws) p t n → Items ws (p + n) ts → Items ws p (t ∷ ts)
reads ws p h (constant {c} {n} e) i = joined (from ws p h ∙ ap (moved_by p) e) i
reads ws p h (word {i = j} {n} e) i = single (from ws p h ∙ ap (moved_by p) e) i

ends : (ws : List ℕ) (p : ℕ) → p ≤ length ws → length (drop p ws) ≡ 0 → Items ws p []
ends ws p h e = end (sym (finds.end ws p (omega (arith, h, e, length-drop p ws))))

module _ (W : List ℕ) (small : length W < 2 ^ 64) where
  told : {k : Carried} {at : ℕ} {ps : List (List ℕ)} {ts : List Told} → Pieces k at ps ts → (a : List ℕ) (p : ℕ)
      → Keeps k a p → at ≡ p + length a → p ≤ length W → drop p W ≡ a ++ joined_up ps → Items W p ts
  told archive.none [] p h at-is in-W d = ends W p in-W (ap length d)
  told archive.none (w ∷ a) p h at-is in-W d = absurd h
  told (last {b = b}) a p h at-is in-W d =
      let e : drop p W ≡ a = d ∙ append-nil a in
      let n : length (drop (p + length a) W) ≡ 0 = omega (arith, length-drop p W, ap length e, length-drop (p + length a) W) in
      rw h.1 (reads W p in-W (constant (ap (λ (l : List ℕ). found_of l 0) e ∙ h.0)) (ends W (p + length a) (omega (arith, length-drop p W, ap length e)) n))
  told (tells {k} {at} {n} {ws} {ps} {t} {ts} e q) a p h at-is in-W d =
      let room : length (drop p W) ≡ length a + (length ws + length (joined_up ps)) = ap length d ∙ length-append a (ws ++ joined_up ps) ∙ ap (λ (m : ℕ). length a + m) (length-append ws (joined_up ps)) in
      let f = told_first a ws (joined_up ps) p t n (says k a ws p at h at-is (omega (arith, room, length-drop p W, small))) e in
      let next = p + (length a + n) in
      let inside : next ≤ length W = omega (arith, room, length-drop p W, f.1, in-W) in
      let left : drop next W ≡ drop n ws ++ joined_up ps =
      sym (drop-drop (length a + n) p W) ∙ ap (drop (length a + n)) d ∙ drop-append-add a (ws ++ joined_up ps) n ∙ drop-append-le n ws (joined_up ps) f.1 in
      let at_next : on_by at n ≡ next + 0 = omega (arith, at-is, inside, small) in
      reads W p in-W (rw d f.0) (told q [] next tt at_next inside left)
  told (carries {k} {l} {at} {ws} {ps} e q) a p h at-is in-W d =
      let room : length (drop p W) ≡ length a + (length ws + length (joined_up ps)) = ap length d ∙ length-append a (ws ++ joined_up ps) ∙ ap (λ (m : ℕ). length a + m) (length-append ws (joined_up ps)) in
      let s = says k a ws p at h at-is (omega (arith, room, length-drop p W, small)) in
      let at_next : on_by at (length ws) ≡ p + length (a ++ ws) = omega (arith, at-is, room, length-drop p W, small, length-append a ws, in-W) in
      told q (a ++ ws) p (carried_on a ws p l s e) at_next in-W (d ∙ sym (append_assoc a ws (joined_up ps)))

-- however an archive is cut, what is told of its pieces are the items of the whole
pub pieces_whole : (ps : List (List ℕ)) (ts : List Told) → length (joined_up ps) < 2 ^ 64 → Pieces None 0 ps ts → Items (joined_up ps) 0 ts
pieces_whole ps ts small q = told (joined_up ps) small q [] 0 tt refl (omega arith) refl

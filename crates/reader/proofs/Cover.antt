-- Reading on from each item's end covers the run: every word belongs to exactly one item. Assumes nothing.
use mathlib.Core.Path.{◌≡◌, refl, ap}
use mathlib.Core.Bool.{Bool, true, false, cond}
use mathlib.Core.List.{List}
use mathlib.Core.Option.{Option, some}
use Prim.Native.Nat.{ℕ, zero, suc, ◌+◌, ◌-◌, ◌≤◌, ◌<◌}
use native.Mathlib.Omega.{arith}
use borrow.Author.Tests.{le-leb, lt-leb, ltb-true, ltb-false}
use lib.Dec.{eqb, ltb}
use lib.ListN.{length, drop, get_or, length-drop}
use Rattle.items.specs.declared.Item.{Item}
use Rattle.items.specs.declared.Item.TheVariants as item
use Rattle.items.specs.Items.{item_of}
use Rattle.reader.specs.declared.Found.TheVariants.{Single}
use Rattle.reader.specs.declared.Span.{Span}
use Rattle.reader.specs.Found.{span, words_along, joined_of, found_item, found_of}
use Rattle.reader.specs.Cover.{found_span, span_of, on_to, spans, holding}
use Rattle.reader.proofs.Joins.{leading_le}
use Rattle.reader.proofs.Finds as finds

-- an item stands at the position, and the next one begins after it, in the run or at its end
pub record Onward (ws : List ℕ) (at : ℕ) (a : Option Span) : Type 0 where
  pub next : ℕ
  pub is : a ≡ some (span at next)
  pub later : at < next
  pub within : next ≤ length ws

module _ (ws : List ℕ) (at : ℕ) (l : at < length ws) where
  onward_joined : (sf rd : ℕ) → Onward ws at (found_span (joined_of ws at sf rd))
  unfolding joined_of
  onward_joined sf rd = record {
    next = at + length (words_along ws at sf rd);
    is = refl;
    later = omega arith;
    within = omega (arith, leading_le sf rd (drop (suc at) ws), length-drop (suc at) ws);
  }

  single : Onward ws at (some (span at (at + 1)))
  single = record { next = at + 1; is = refl; later = omega arith; within = omega arith }

  onward_item : (i : Item) → Onward ws at (found_span (found_item ws at i))
  onward_item (item.Wide m) = go (eqb m.opc 3)
    where
      go : (b : Bool) → Onward ws at (found_span (cond b (Single (item.Wide m) (span at (at + 1))) (joined_of ws at m.sf m.rd)))
      go true = single
      go false = onward_joined m.sf m.rd
  onward_item (item.Logical x) = single
  onward_item (item.Displaced x) = single
  onward_item (item.Unknown x) = single

  pub onward : Onward ws at (span_of (found_of ws at))
  onward = rw (finds.inside ws at l) (onward_item (item_of (get_or ws at 0)))

-- ---- every word

-- an item does not reach back
before : (n k : ℕ) (ws : List ℕ) (at : ℕ) → k < at → at ≤ length ws → holding k (spans n ws at) ≡ 0
unfolding spans holding
before zero k ws at h l = refl
before (suc n) k ws at h l = go (λ next. before n k ws next) (ltb at (length ws)) refl
  where
    go : ((next : ℕ) → k < next → next ≤ length ws → holding k (spans n ws next) ≡ 0) → (b : Bool) → ltb at (length ws) ≡ b → holding k (on_to (span_of (found_of ws at)) (spans n ws)) ≡ 0
    go ih true e =
        let o = onward ws at (ltb-true _ _ e) in
        rw (o.is, lt-leb at k h) (ih o.next (omega (arith, o.later)) o.within)
    go ih false e = rw (← finds.end ws at (omega (arith, ltb-false at (length ws) e)))

-- from a position on, every word stands in exactly one item
pub once : (n k : ℕ) (ws : List ℕ) (at : ℕ) → at ≤ k → k < length ws → length ws - at ≤ n → holding k (spans n ws at) ≡ 1
unfolding spans holding
once zero k ws at lo hi f = absurd (omega arith)
once (suc n) k ws at lo hi f = go (λ next. once n k ws next) (ltb k o.next) refl
  where
    o : Onward ws at (span_of (found_of ws at))
    o = onward ws at (omega arith)

    go : ((next : ℕ) → next ≤ k → k < length ws → length ws - next ≤ n → holding k (spans n ws next) ≡ 1) → (b : Bool) → ltb k o.next ≡ b → holding k (on_to (span_of (found_of ws at)) (spans n ws)) ≡ 1
    go ih true e = rw (o.is, le-leb at k lo, e) (ap suc (before n k ws o.next (ltb-true _ _ e) o.within))
    go ih false e = rw (o.is, le-leb at k lo, e) (ih o.next (ltb-false _ _ e) hi (omega (arith, o.later)))

-- from the start, as many readings as there are words are enough
pub covers : (ws : List ℕ) (k : ℕ) → k < length ws → holding k (spans (length ws) ws 0) ≡ 1
covers ws k h = once (length ws) k ws 0 (omega arith) h (omega arith)

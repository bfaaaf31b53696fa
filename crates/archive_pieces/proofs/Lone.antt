-- A wide move that is told as one word is a MOVK: every other one begins a constant. Assumes nothing.
use mathlib.Core.Path.{◌≡◌, refl, sym, ap, ◌∙◌}
use mathlib.Core.Bool.{Bool, true, false, cond}
use mathlib.Core.List.{List, [], ◌∷◌}
use Prim.Native.Nat.{ℕ, ◌+◌}
use native.Mathlib.Omega.{arith}
use borrow.Author.Tests.{eqb-true}
use lib.Dec.{eqb}
use lib.ListN.{length}
use Rattle.wide_moves.specs.declared.WideMove.{WideMove}
use Rattle.items.specs.Items.{item_of}
use Rattle.items.specs.declared.Item.{Item}
use Rattle.items.specs.declared.Item.TheVariants as item
use Rattle.reader.specs.declared.Constant.{Constant}
use Rattle.reader.specs.declared.Span.{Span}
use Rattle.reader.specs.declared.Found.{Found}
use Rattle.reader.specs.declared.Found.TheVariants as found
use Rattle.reader.specs.Found.{span, joined_of, found_item, found_of, resumed_of}
use Rattle.reader.proofs.Finds as finds
use Rattle.reader.proofs.Constants.{the_found}
use Rattle.archive_pieces.specs.declared.Told.TheVariants.{Joined, Single}
use Rattle.std.specs.Prelude.{None, Some, Ok, Err, Result}
use Rattle.archive_pieces.specs.declared.Begun.{Begun}
use Rattle.words.specs.declared.Refusal.{Refusal}
use Rattle.archive_pieces.specs.declared.Step.TheVariants.{Tell, Carry}
use Rattle.archive_pieces.specs.Steps.{Carried, begun, begins_of, goes_on_of, step_of}
use Rattle.archive_pieces.proofs.Forward.{tell_back, carry_tell}

module _ (m : WideMove) (s : Span) where
  by_item : (ws : List ℕ) (i : Item) → found_item ws 0 i ≡ found.Single (item.Wide m) s → m.opc ≡ 3
  unfolding joined_of
  by_item ws (item.Wide n) e = go (eqb n.opc 3) refl e
    where
      same : found.Single (item.Wide n) (span 0 (0 + 1)) ≡ found.Single (item.Wide m) s → n ≡ m
      same q = cc

      other : {c : Constant} {u : Span} → found.Joined c u ≡ found.Single (item.Wide m) s → ⊥
      other q = let z : ◌≡◌ {A = ℕ} 0 1 = cc in omega arith

      go : (b : Bool) → eqb n.opc 3 ≡ b → cond b (found.Single (item.Wide n) (span 0 (0 + 1))) (joined_of ws 0 n.sf n.rd) ≡ found.Single (item.Wide m) s → m.opc ≡ 3
      go true t q = ap (λ (x : WideMove). x.opc) (sym (same q)) ∙ eqb-true _ _ t
      go false t q = absurd (other q)
  by_item ws (item.Logical l) e = let z : ◌≡◌ {A = ℕ} 0 1 = cc in absurd (omega arith)
  by_item ws (item.Displaced d) e = let z : ◌≡◌ {A = ℕ} 0 1 = cc in absurd (omega arith)
  by_item ws (item.Unknown w) e = let z : ◌≡◌ {A = ℕ} 0 1 = cc in absurd (omega arith)

  found_lone : (ws : List ℕ) → found_of ws 0 ≡ Ok (found.Single (item.Wide m) s) → m.opc ≡ 3
  found_lone [] e = let q = finds.end [] 0 refl ∙ e in let z : ◌≡◌ {A = ℕ} 0 1 = cc in absurd (omega arith)
  found_lone (w ∷ ws) e = by_item (w ∷ ws) (item_of w) (the_found (sym (finds.inside (w ∷ ws) 0 (omega arith)) ∙ e))

module _ (ws : List ℕ) (m : WideMove) (p n : ℕ) where
  no_constant : {c : Constant} {at k : ℕ} → Tell (Joined c at) k ≡ Tell (Single (item.Wide m) p) n → ⊥
  no_constant q = let z : ◌≡◌ {A = ℕ} 0 1 = cc in omega arith

  no_reach : (b : Bool) (c : Constant) (at k : ℕ) → cond b (Carry (Some (begun c at))) (Tell (Joined c at) k) ≡ Tell (Single (item.Wide m) p) n → ⊥
  no_reach true c at k q = carry_tell q
  no_reach false c at k q = no_constant q

  first_lone : (at : ℕ) (f : Result Found Refusal) → found_of ws 0 ≡ f → begins_of ws at f ≡ Tell (Single (item.Wide m) p) n → m.opc ≡ 3
  first_lone at (Ok (found.Joined c s)) e q = absurd (no_reach (eqb s.next.0 (length ws)) c at s.next.0 q)
  first_lone at (Ok (found.Single i s)) e q =
      let t : Single i at ≡ Single (item.Wide m) p = (tell_back q).0 in
      let j : i ≡ item.Wide m = cc in
      found_lone m s ws (e ∙ ap (λ (x : Item). Ok (found.Single x s)) j)
  first_lone at (Ok found.End) e q = absurd (carry_tell q)
  first_lone at (Err r) e q = absurd (carry_tell q)

  next-none : (b : Begun) (f : Result Found Refusal) → goes_on_of ws b f ≡ Tell (Single (item.Wide m) p) n → ⊥
  next-none b (Ok (found.Joined d s)) q = no_reach (eqb s.next.0 (length ws)) d b.at s.next.0 q
  next-none b (Ok (found.Single i s)) q = no_constant q
  next-none b (Ok found.End) q = no_constant q
  next-none b (Err r) q = no_constant q

  pub lone_movk : (at : ℕ) (k : Carried) → step_of ws at k ≡ Tell (Single (item.Wide m) p) n → m.opc ≡ 3
  unfolding step_of
  lone_movk at None q = first_lone at (found_of ws 0) refl q
  lone_movk at (Some b) q = absurd (next-none b (resumed_of ws b.constant) q)

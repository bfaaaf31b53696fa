-- What the contract's definition comes to in each case. Assumes nothing.
use mathlib.Core.Path.{◌≡◌, refl, sym, ap, subst, ◌∙◌}
use mathlib.Core.Bool.{Bool, true, false, cond}
use mathlib.Core.List.{List, ◌++◌}
use mathlib.Core.Option.{some}
use Prim.Native.Nat.{ℕ, ◌+◌, ◌-◌, ◌≤◌, ◌<◌}
use native.Mathlib.Nat.{zero-add}
use native.Mathlib.Omega.{arith}
use borrow.Author.Tests.{ltb-true, ltb-false, eqb-true, eqb-false}
use lib.Dec.{eqb, ltb}
use lib.IntN.{pos}
use lib.ListN.{length, drop, get_or, get_or-append}
use lib.Seq.{sets, sets-eq, get_or-append-add, get_or-drop}
use lib.Signed.{mag}
use Rattle.std.specs.Prelude.{Result, Ok, Err}
use Rattle.words.specs.Said.{ok}
use Rattle.words.specs.declared.Refusal.{Refusal}
use Rattle.items.specs.Items.{item_of}
use Rattle.items.specs.declared.Item.{Item}
use Rattle.items.specs.declared.Item.TheVariants as item
use Rattle.reader.specs.declared.Constant.{Constant}
use Rattle.reader.specs.declared.Found.{Found}
use Rattle.reader.specs.declared.Found.TheVariants.{Joined, Single, End}
use Rattle.reader.specs.declared.Span.{Span}
use Rattle.reader.specs.Cover.{span_of}
use Rattle.reader.specs.Found.{span, joined_of, found_item, found_of}
use Rattle.reader.proofs.Finds as finds
use Rattle.reader.proofs.Constants.{the_found}
use Rattle.host.specs.Number.{value_in, Reads}
use Rattle.host.proofs.Reading.{Small}
use Rattle.host_reader.specs.Numbers.{item_kind, kind_of, number_list, host_found}

-- ---- reading

-- the item that was matched
pub matched : (ns : List ℕ) (s : Span) {y : ℕ × List ℕ} {i j : Item} → y ≡ host_found ns (Ok (Single i s)) → j ≡ i → y ≡ host_found ns (Ok (Single j s))
matched ns s p e = p ∙ ap (λ (k : Item). host_found ns (Ok (Single k s))) (sym e)

-- ---- the numbers of what was found

-- an item has eleven at most
pub most : (f : Result Found Refusal) → length (number_list f) ≤ 11
most (Ok (Joined c s)) = omega arith
most (Ok (Single (item.Wide m) s)) = omega arith
most (Ok (Single (item.Logical l) s)) = omega arith
most (Ok (Single (item.Displaced d) s)) = omega arith
most (Ok (Single (item.Unknown w) s)) = omega arith
most (Ok End) = omega arith
most (Err r) = omega arith

-- the kind is small, and a refusal has one of the refusals' numbers
pub small : (f : Result Found Refusal) → Small (kind_of f)
small (Ok (Joined c s)) = omega arith
small (Ok (Single (item.Wide m) s)) = omega arith
small (Ok (Single (item.Logical l) s)) = omega arith
small (Ok (Single (item.Displaced d) s)) = omega arith
small (Ok (Single (item.Unknown w) s)) = omega arith
small (Ok End) = omega arith
small (Err r) = (r, refl)

-- numbers written from the first on, and those behind them
module _ (ns vs : List ℕ) (h : length vs ≤ length ns) where
  written : sets ns 0 vs ≡ vs ++ drop (length vs) ns
  written = sets-eq vs ns 0 (omega arith) ∙ ap (λ (k : ℕ). vs ++ drop k ns) (zero-add (length vs))

  pub written_first : (i : ℕ) → i < length vs → get_or (sets ns 0 vs) i 0 ≡ get_or vs i 0
  written_first i l = ap (λ (z : List ℕ). get_or z i 0) written ∙ get_or-append vs (drop (length vs) ns) 0 i l

  pub written_behind : (i : ℕ) → length vs ≤ i → get_or (sets ns 0 vs) i 0 ≡ get_or ns i 0
  written_behind i l =
      let j = i - length vs in
      let on : length vs + j ≡ i = omega arith in
      subst (λ (k : ℕ). get_or (sets ns 0 vs) k 0 ≡ get_or ns k 0) on
      (ap (λ (z : List ℕ). get_or z (length vs + j) 0) written ∙ get_or-append-add vs (drop (length vs) ns) j 0 ∙ get_or-drop (length vs) ns j 0)

-- ---- what was found, by its kind

-- an item's kind is no refusal, and its first number is the position after it
pub record Spanned (f : Result Found Refusal) (s : Span) : Type 0 where
  pub kind : ℕ
  pub is : kind_of f ≡ ok (pos kind)
  pub some : 0 < length (number_list f)
  pub next : get_or (number_list f) 0 0 ≡ s.next.0

pub spanned : (f : Result Found Refusal) {s : Span} → span_of f ≡ some s → Spanned f s
spanned (Ok (Joined c t)) {s} e = let same : t ≡ s = cc in record { kind = 1; is = refl; some = omega arith; next = ap (λ (u : Span). u.next.0) same }
spanned (Ok (Single i t)) {s} e = let same : t ≡ s = cc in go i (ap (λ (u : Span). u.next.0) same)
  where
    go : (i : Item) → t.next.0 ≡ s.next.0 → Spanned (Ok (Single i t)) s
    go (item.Wide m) q = record { kind = 2; is = refl; some = omega arith; next = q }
    go (item.Logical l) q = record { kind = 3; is = refl; some = omega arith; next = q }
    go (item.Displaced d) q = record { kind = 4; is = refl; some = omega arith; next = q }
    go (item.Unknown w) q = record { kind = 5; is = refl; some = omega arith; next = q }
spanned (Ok End) e = let z : ◌≡◌ {A = ℕ} 0 1 = cc in absurd (omega arith)
spanned (Err r) e = let z : ◌≡◌ {A = ℕ} 0 1 = cc in absurd (omega arith)

-- kind 1 is a constant's alone, the kinds from 2 on are items' of one word
module _ (x kind : ℕ) (v : value_in x ≡ pos kind) where
  kinds : {m : ℕ} → value_in x ≡ pos m → m ≡ kind
  kinds e = ap mag (sym e ∙ v)

  pub joined_kind : (f : Result Found Refusal) → Reads x (kind_of f) → kind ≡ 1 → (c : Constant) × (s : Span) × (f ≡ Ok (Joined c s))
  joined_kind (Ok (Joined c s)) r k = (c, s, refl)
  joined_kind (Ok (Single i s)) r k = absurd (go i (kinds r.1))
    where
      go : (i : Item) → item_kind i ≡ kind → ⊥
      go (item.Wide m) q = omega arith
      go (item.Logical l) q = omega arith
      go (item.Displaced d) q = omega arith
      go (item.Unknown w) q = omega arith
  joined_kind (Ok End) r k = absurd (omega (arith, kinds r.1))
  joined_kind (Err e) r k = absurd (omega (arith, kinds r.2))

  pub single_kind : (f : Result Found Refusal) → Reads x (kind_of f) → 2 ≤ kind → (i : Item) × (s : Span) × (f ≡ Ok (Single i s))
  single_kind (Ok (Joined c s)) r k = absurd (omega (arith, kinds r.1))
  single_kind (Ok (Single i s)) r k = (i, s, refl)
  single_kind (Ok End) r k = absurd (omega (arith, kinds r.1))
  single_kind (Err e) r k = absurd (omega (arith, kinds r.2))

-- a constant is no item of one word
no_constant : (ws : List ℕ) (at sf rd : ℕ) {i : Item} {s : Span} → joined_of ws at sf rd ≡ Single i s → ⊥
unfolding joined_of
no_constant ws at sf rd e = let z : ◌≡◌ {A = ℕ} 0 1 = cc in omega arith

-- an item of one word is what the word at the position is
module _ (ws : List ℕ) (at : ℕ) {i : Item} {s : Span} where
  single_item : (j : Item) → found_item ws at j ≡ Single i s → (i ≡ j) × (s ≡ span at (at + 1))
  single_item (item.Wide m) = go (eqb m.opc 3)
    where
      go : (b : Bool) → cond b (Single (item.Wide m) (span at (at + 1))) (joined_of ws at m.sf m.rd) ≡ Single i s → (i ≡ item.Wide m) × (s ≡ span at (at + 1))
      go true e = (cc, cc)
      go false e = absurd (no_constant ws at m.sf m.rd e)
  single_item (item.Logical l) = λ e. (cc, cc)
  single_item (item.Displaced d) = λ e. (cc, cc)
  single_item (item.Unknown w) = λ e. (cc, cc)

  pub single_is : found_of ws at ≡ Ok (Single i s) → (i ≡ item_of (get_or ws at 0)) × (s ≡ span at (at + 1))
  single_is e = go (ltb at (length ws)) refl (eqb (length ws) at) refl
    where
      go : (b : Bool) → ltb at (length ws) ≡ b → (d : Bool) → eqb (length ws) at ≡ d → (i ≡ item_of (get_or ws at 0)) × (s ≡ span at (at + 1))
      go true l d q = single_item (item_of (get_or ws at 0)) (the_found (sym (finds.inside ws at (ltb-true _ _ l)) ∙ e))
      go false l true q = let f = finds.end ws at (eqb-true _ _ q) ∙ e in let z : ◌≡◌ {A = ℕ} 0 1 = cc in absurd (omega arith)
      go false l false q =
          let n : length ws ≡ at → ⊥ = eqb-false _ _ q in
          let f = finds.past ws at (omega (arith, ltb-false at (length ws) l)) ∙ e in
          let z : ◌≡◌ {A = ℕ} 0 1 = cc in
          absurd (omega arith)

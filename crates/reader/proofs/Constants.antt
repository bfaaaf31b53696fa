-- A constant that is read from a run is what its words leave, from any old content. Assumes nothing.
use mathlib.Core.Path.{◌≡◌, refl, sym, ap, subst, ◌∙◌}
use mathlib.Core.Bool.{Bool, true, false, cond}
use mathlib.Core.List.{List, [], ◌∷◌}
use mathlib.Core.Option.{some}
use Prim.Native.Nat.{ℕ, suc, ◌+◌, ◌%◌, ◌≤◌, ◌<◌}
use native.Mathlib.Omega.{arith}
use borrow.Author.Tests.{ltb-true, ltb-false, eqb-true, eqb-false}
use lib.Dec.{eqb, ltb}
use lib.ListN.{length, take, drop, get_or}
use lib.Seq.{drop-cons}
use Rattle.arm.specs.Bits.{bits}
use Rattle.arm.specs.MoveWide.{decode, Regs, write, run}
use Rattle.std.specs.Prelude.{Ok, Err, Result}
use Rattle.words.specs.declared.Refusal.{Refusal}
use Rattle.words.specs.declared.Refusal.TheVariants.{NoRoom}
use Rattle.reader.specs.declared.Found.{Found}
use Rattle.wide_moves.specs.Wide.{wide_of}
use Rattle.wide_moves.proofs.Wides.{Passes, fields_of, read_move}
use Rattle.items.specs.declared.Item.{Item}
use Rattle.items.specs.declared.Item.TheVariants as item
use Rattle.items.specs.Items.{item_of}
use Rattle.items.proofs.Cases.{itemed, by_item}
use Rattle.reader.specs.declared.Constant.{Constant}
use Rattle.reader.specs.declared.Span.{Span}
use Rattle.reader.specs.declared.Found.TheVariants.{Joined, Single, End}
use Rattle.reader.specs.Found.{span, keeps, leading, words_along, value_of, joined_of, found_item, found_of}
use Rattle.reader.specs.Private.{FirstAt}
use Rattle.reader.proofs.Joins.{leaves}
use Rattle.reader.proofs.Finds as finds

pub leading_take : (sf rd : ℕ) (ws : List ℕ) → leading sf rd ws ≡ take (length (leading sf rd ws)) ws
unfolding leading
leading_take sf rd [] = refl
leading_take sf rd (w ∷ ws) = go (keeps sf rd (wide_of (decode w))) (leading_take sf rd ws)
  where
    go : (b : Bool) → leading sf rd ws ≡ take (length (leading sf rd ws)) ws
        → cond b (w ∷ leading sf rd ws) [] ≡ take (length (cond b (w ∷ leading sf rd ws) [])) (w ∷ ws)
    go true e = ap (λ (l : List ℕ). w ∷ l) e
    go false e = refl

-- what is known of a constant that is read at a position
pub record Reads (ws : List ℕ) (at : ℕ) (c : Constant) (s : Span) : Type 0 where
  pub stands : s ≡ span at (at + c.count)
  pub leaves : (R : Regs) → run (take c.count (drop at ws)) R ≡ some (write R c.rd c.value)

pub the_found : {f g : Found} → ◌≡◌ {A = Result Found Refusal} (Ok f) (Ok g) → f ≡ g
the_found e = cc

-- a constant comes from a MOVZ or a MOVN in the run
pub record From (ws : List ℕ) (at : ℕ) (c : Constant) (s : Span) : Type 0 where
  pub first : FirstAt ws at (fields_of (get_or ws at 0))
  pub joined : let w = get_or ws at 0 in joined_of ws at (bits 31 31 w) (w % 32) ≡ Joined c s

pub comes_from : (ws : List ℕ) (at : ℕ) (c : Constant) (s : Span) → found_of ws at ≡ Ok (Joined c s) → From ws at c s
comes_from ws at c s e = go (ltb at (length ws)) refl
  where
    no_single : {i : Item} {n : Span} → Single i n ≡ Joined c s → ⊥
    no_single q = let z : ◌≡◌ {A = ℕ} 0 1 = cc in omega arith

    no_end : ◌≡◌ {A = Result Found Refusal} (Ok End) (Ok (Joined c s)) → ⊥
    no_end q = let z : ◌≡◌ {A = ℕ} 0 1 = cc in omega arith

    no_past : Err NoRoom ≡ Ok (Joined c s) → ⊥
    no_past q = let z : ◌≡◌ {A = ℕ} 0 1 = cc in omega arith

    by_opc : (l : at < length ws) → let w = get_or ws at 0 in Passes w → (b : Bool) → eqb (bits 30 29 w) 3 ≡ b
        → cond b (Single (item.Wide (fields_of w)) (span at (at + 1))) (joined_of ws at (bits 31 31 w) (w % 32)) ≡ Joined c s → From ws at c s
    by_opc l p true o q = absurd (no_single q)
    by_opc l p false o q =
        record { first = record { inside = l; read = itemed (get_or ws at 0) (read_move (get_or ws at 0) p); first = eqb-false _ _ o }; joined = q }

    inside : (l : at < length ws) → found_item ws at (item_of (get_or ws at 0)) ≡ Joined c s → From ws at c s
    inside l = by_item (get_or ws at 0) (λ i. found_item ws at i ≡ Joined c s → From ws at c s)
        (λ _ q. absurd (no_single q)) (λ _ q. absurd (no_single q)) (λ _ q. absurd (no_single q))
        (λ p q. by_opc l p (eqb (bits 30 29 (get_or ws at 0)) 3) refl q)

    outside : (b : Bool) → eqb (length ws) at ≡ b → length ws ≤ at → From ws at c s
    outside true p h = absurd (no_end (finds.end ws at (eqb-true _ _ p) ∙ e))
    outside false p h = let n : length ws ≡ at → ⊥ = eqb-false _ _ p in absurd (no_past (finds.past ws at (omega arith) ∙ e))

    go : (b : Bool) → ltb at (length ws) ≡ b → From ws at c s
    go true l = let h = ltb-true _ _ l in inside h (the_found (sym (finds.inside ws at h) ∙ e))
    go false l = outside (eqb (length ws) at) refl (ltb-false _ _ l)

pub same_joined : {c d : Constant} {n m : Span} → Joined c n ≡ Joined d m → (c ≡ d) × (n ≡ m)
same_joined q = (cc, cc)

pub constant_leaves : (ws : List ℕ) (at : ℕ) (c : Constant) (s : Span) → found_of ws at ≡ Ok (Joined c s) → Reads ws at c s
unfolding joined_of
constant_leaves ws at c s e =
    let t = comes_from ws at c s e in
    let q = same_joined t.joined in
    let w = get_or ws at 0 in
    let xs = words_along ws at (bits 31 31 w) (w % 32) in
    let words : xs ≡ take (length xs) (drop at ws) =
    ap (λ (l : List ℕ). w ∷ l) (leading_take (bits 31 31 w) (w % 32) (drop (suc at) ws)) ∙ sym (ap (take (length xs)) (drop-cons ws at 0 t.first.inside)) in
    rw (← q.0, ← q.1) (record { stands = refl; leaves = λ R. subst (λ (l : List ℕ). run l R ≡ some (write R (w % 32) (value_of (w % 32) xs))) words ((leaves t.first).1 R) })

-- An archive has one list of items, every way to cut it is told to its end, and all of them alike. Assumes nothing.
use mathlib.Core.Path.{◌≡◌, refl, sym, ap, ◌∙◌}
use mathlib.Core.List.{List, [], ◌∷◌}
use Prim.Native.Nat.{ℕ, zero, suc, ◌+◌, ◌*◌, ◌^◌, ◌≤◌, ◌<◌}
use native.Mathlib.Omega.{arith}
use lib.ListN.{length, drop, length-append, length-drop}
use Rattle.items.specs.declared.Item.{Item}
use Rattle.reader.specs.declared.Constant.{Constant}
use Rattle.reader.specs.declared.Span.{Span}
use Rattle.reader.specs.declared.Found.TheVariants as found
use Rattle.archive_pieces.specs.declared.Told.{Told}
use Rattle.archive_pieces.specs.declared.Told.TheVariants.{Joined, Single}
use Rattle.std.specs.Prelude.{None, Some, Ok, Result}
use Rattle.words.specs.declared.Refusal.{Refusal}
use Rattle.reader.specs.declared.Found.{Found}
use Rattle.archive_pieces.specs.declared.Step.{Step}
use Rattle.archive_pieces.specs.declared.Step.TheVariants.{Tell, Carry}
use Rattle.archive_pieces.specs.Steps.{Carried, step_of}
use Rattle.archive_pieces.specs.Archive.{Items, end, joined, single, on_by, Pieces, none, last, tells, carries, joined_up}
use Rattle.archive_pieces.proofs.Forward.{held, forward}
use Rattle.archive_pieces.proofs.Whole.{pieces_whole}

-- ---- one list of items

other : {c : Constant} {i : Item} {s u : Span} → ◌≡◌ {A = Result Found Refusal} (Ok (found.Joined c s)) (Ok (found.Single i u)) → ⊥
other e = let z : ◌≡◌ {A = ℕ} 0 1 = cc in omega arith

no_joined : {c : Constant} {s : Span} → ◌≡◌ {A = Result Found Refusal} (Ok found.End) (Ok (found.Joined c s)) → ⊥
no_joined e = let z : ◌≡◌ {A = ℕ} 0 1 = cc in omega arith

no_single : {i : Item} {s : Span} → ◌≡◌ {A = Result Found Refusal} (Ok found.End) (Ok (found.Single i s)) → ⊥
no_single e = let z : ◌≡◌ {A = ℕ} 0 1 = cc in omega arith

same_joined : {c d : Constant} {s u : Span} → ◌≡◌ {A = Result Found Refusal} (Ok (found.Joined c s)) (Ok (found.Joined d u)) → (c ≡ d) × (s ≡ u)
same_joined e = (cc, cc)

same_single : {i j : Item} {s u : Span} → ◌≡◌ {A = Result Found Refusal} (Ok (found.Single i s)) (Ok (found.Single j u)) → (i ≡ j) × (s ≡ u)
same_single e = (cc, cc)

pub one_list : {ws : List ℕ} {at : ℕ} {ts us : List Told} → Items ws at ts → Items ws at us → ts ≡ us
one_list (end e) (end f) = refl
one_list (end e) (joined f q) = absurd (no_joined (sym e ∙ f))
one_list (end e) (single f q) = absurd (no_single (sym e ∙ f))
one_list (joined e p) (end f) = absurd (no_joined (sym f ∙ e))
one_list {ws} {at} (joined {c = c} {ts = ts} e p) (joined {ts = us} f q) =
    let o = same_joined (sym f ∙ e) in
    rw o.0 (ap (λ (l : List Told). Joined c at ∷ l) (one_list p (rw o.1 at q)))
one_list (joined e p) (single f q) = absurd (other (sym e ∙ f))
one_list (single e p) (end f) = absurd (no_single (sym f ∙ e))
one_list (single e p) (joined f q) = absurd (other (sym f ∙ e))
one_list {ws} {at} (single {i = i} e p) (single f q) =
    let o = same_single (sym f ∙ e) in
    rw o.0 (ap (λ (l : List Told). Single i at ∷ l) (one_list p (rw o.1 at q)))

-- however it is cut
pub cut_anyhow : (ps qs : List (List ℕ)) (ts us : List Told) → joined_up ps ≡ joined_up qs → length (joined_up ps) < 2 ^ 64
    → Pieces None 0 ps ts → Pieces None 0 qs us → ts ≡ us
cut_anyhow ps qs ts us e small p q =
    one_list (pieces_whole ps ts small p) (rw e (pieces_whole qs us (rw (← e) small) q))

-- ---- every cut is told to its end

-- how many steps are left at most
abbrev left : Carried → List (List ℕ) → ℕ
left k ps = 2 * length (joined_up ps) + 2 * length ps + held k

short_held : (k : Carried) → held k ≤ 1
short_held None = omega arith
short_held (Some b) = omega arith

pub told_to_the_end : (m : ℕ) (k : Carried) (at : ℕ) (ps : List (List ℕ)) → left k ps ≤ m → (ts : List Told) × Pieces k at ps ts
told_to_the_end m None at [] h = ([], none)
told_to_the_end m (Some b) at [] h = (Joined b.constant b.at ∷ [], last)
told_to_the_end zero k at (ws ∷ ps) h = absurd (omega arith)
told_to_the_end (suc m) k at (ws ∷ ps) h =
    go (step_of ws at k) refl (λ n. told_to_the_end m None (on_by at n) (drop n ws ∷ ps)) (λ l. told_to_the_end m l (on_by at (length ws)) ps)
  where
    fewer : (k : Carried) (n : ℕ) → n ≤ length ws → (k ≡ None → 0 < n) → left k (ws ∷ ps) ≤ suc m → left None (drop n ws ∷ ps) ≤ m
    fewer None n i f h = omega (arith, i, f refl, h, length-append ws (joined_up ps), length-append (drop n ws) (joined_up ps), length-drop n ws)
    fewer (Some b) n i f h = omega (arith, i, h, length-append ws (joined_up ps), length-append (drop n ws) (joined_up ps), length-drop n ws)

    go : (x : Step) → step_of ws at k ≡ x
        → ((n : ℕ) → left None (drop n ws ∷ ps) ≤ m → (ts : List Told) × Pieces None (on_by at n) (drop n ws ∷ ps) ts)
        → ((l : Carried) → left l ps ≤ m → (ts : List Told) × Pieces l (on_by at (length ws)) ps ts)
        → (ts : List Told) × Pieces k at (ws ∷ ps) ts
    go (Tell t n) e again on =
        let f = forward ws at t n k e in
        let r = again n (fewer k n f.within f.later h) in
        (t ∷ r.0, tells e r.1)
    go (Carry l) e again on =
        let r = on l (omega (arith, h, short_held l, length-append ws (joined_up ps))) in
        (r.0, carries e r.1)

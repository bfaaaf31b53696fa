-- Every step goes forward: with nothing carried an item takes a word or more, and no step takes more words than there are. Assumes nothing.
use mathlib.Core.Path.{◌≡◌, refl, sym, ap, ◌∙◌}
use mathlib.Core.Bool.{Bool, true, false, cond}
use mathlib.Core.List.{List, [], ◌∷◌}
use mathlib.Core.Option.{none, some, none-ne-some}
use Prim.Native.Nat.{ℕ, ◌+◌, ◌-◌, ◌*◌, ◌^◌, ◌≤◌, ◌<◌}
use native.Mathlib.Omega.{arith}
use lib.Dec.{eqb, ltb}
use lib.ListN.{length, take, length-take}
use Rattle.arm.specs.Bits.{Ones}
use Rattle.arm.specs.MoveWide.{datasize}
use Rattle.words.specs.declared.Refusal.{Refusal}
use Rattle.words.specs.declared.Refusal.TheVariants.{Width, Register, NoField, NoRoom}
use Rattle.reader.specs.declared.Constant.{Constant}
use Rattle.reader.specs.declared.Span.{Span}
use Rattle.reader.specs.declared.Found.{Found}
use Rattle.reader.specs.declared.Found.TheVariants as found
use Rattle.reader.specs.Found.{span, leading, found_of, joined_on, resumed_of}
use Rattle.reader.specs.Cover.{span_of}
use Rattle.reader.proofs.Finds as finds
use Rattle.reader.proofs.Cover.{onward}
use Rattle.reader.proofs.Constants.{leading_take}
use Rattle.archive_pieces.specs.declared.Told.{Told}
use Rattle.archive_pieces.specs.declared.Told.TheVariants.{Joined}
use Rattle.std.specs.Prelude.{None, Some, Ok, Err, Result}
use Rattle.archive_pieces.specs.declared.Begun.{Begun}
use Rattle.archive_pieces.specs.declared.Step.TheVariants.{Tell, Carry}
use Rattle.archive_pieces.specs.Steps.{Carried, begun, begins_of, goes_on_of, step_of}

-- ---- answers taken apart

pub tell_back : {t u : Told} {n m : ℕ} → Tell t n ≡ Tell u m → (t ≡ u) × (n ≡ m)
tell_back e = (cc, cc)

pub carry_back : {k l : Carried} → Carry k ≡ Carry l → k ≡ l
carry_back e = cc

pub carry_tell : {k : Carried} {t : Told} {n : ℕ} → Carry k ≡ Tell t n → ⊥
carry_tell e = let z : ◌≡◌ {A = ℕ} 0 1 = cc in omega arith

some_back : {x y : Span} → some x ≡ some y → x ≡ y
some_back e = cc

-- ---- where an item at the start of a run ends

pub record Spans (ws : List ℕ) (s : Span) : Type 0 where
  pub stands : s ≡ span 0 s.next.0
  pub later : 0 < s.next.0
  pub within : s.next.0 ≤ length ws

pub spans_of : (ws : List ℕ) (s : Span) → span_of (found_of ws 0) ≡ some s → Spans ws s
spans_of [] s e = absurd (none-ne-some s (ap span_of (finds.end [] 0 refl) ∙ e))
spans_of (w ∷ ws) s e =
    let o = onward (w ∷ ws) 0 (omega arith) in
    let q : s ≡ span 0 o.next = some_back (sym e ∙ o.is) in
    let n : s.next.0 ≡ o.next = ap (λ (x : Span). x.next.0) q in
    record { stands = q ∙ ap (span 0) (sym n); later = omega (arith, o.later, n); within = omega (arith, o.within, n) }

-- where nothing is found there are no words
pub empty : (ws : List ℕ) → span_of (found_of ws 0) ≡ none → length ws ≡ 0
empty [] e = refl
empty (w ∷ ws) e = absurd (none-ne-some _ (sym e ∙ (onward (w ∷ ws) 0 (omega arith)).is))

-- ---- what a constant that goes on is: another one, whose words stand at the piece's start, or refused

pub data Resumed (ws : List ℕ) : Result Found Refusal → Type 0 where
  goes : {d : Constant} {n : ℕ} → n ≤ length ws → Resumed ws (Ok (found.Joined d (span 0 n)))
  refused : {r : Refusal} → Resumed ws (Err r)

joined_on_lem : (ws : List ℕ) (c : Constant) → Resumed ws (Ok (joined_on ws c))
unfolding joined_on
joined_on_lem ws c =
    let l = leading c.sf c.rd ws in
    let e : length l ≡ length (take (length l) ws) = ap length (leading_take c.sf c.rd ws) in
    let short : length l ≤ length ws = omega (arith, e ∙ length-take (length l) ws) in
    goes short

pub resumed : (ws : List ℕ) (c : Constant) → Resumed ws (resumed_of ws c)
unfolding resumed_of
resumed ws c =
    go (ltb 1 c.sf) (ltb 30 c.rd) (ltb (Ones (datasize c.sf)) c.value) (ltb (2 ^ 64 - 1 - c.count) (length ws))
  where
    go : (a b v m : Bool) → Resumed ws (cond a (Err Width) (cond b (Err Register) (cond v (Err NoField) (cond m (Err NoRoom) (Ok (joined_on ws c))))))
    go true b v m = refused
    go false true v m = refused
    go false false true m = refused
    go false false false true = refused
    go false false false false = joined_on_lem ws c

-- ---- forward

-- a constant that is carried is one step more
abbrev pub held : Carried → ℕ
held None = 0
held (Some b) = 1

pub record Forward (ws : List ℕ) (k : Carried) (n : ℕ) : Type 0 where
  pub within : n ≤ length ws
  pub later : k ≡ None → 0 < n

module _ (ws : List ℕ) (at : ℕ) (t : Told) (n : ℕ) where
  forward_first : (f : Result Found Refusal) → found_of ws 0 ≡ f → begins_of ws at f ≡ Tell t n → (0 < n) × (n ≤ length ws)
  forward_first (Ok (found.Joined c s)) q e = go (eqb s.next.0 (length ws)) e
    where
      go : (b : Bool) → cond b (Carry (Some (begun c at))) (Tell (Joined c at) s.next.0) ≡ Tell t n → (0 < n) × (n ≤ length ws)
      go true e = absurd (carry_tell e)
      go false e = let p = spans_of ws s (ap span_of q) in rw (← (tell_back e).1) (p.later, p.within)
  forward_first (Ok (found.Single i s)) q e = let p = spans_of ws s (ap span_of q) in rw (← (tell_back e).1) (p.later, p.within)
  forward_first (Ok found.End) q e = absurd (carry_tell e)
  forward_first (Err r) q e = absurd (carry_tell e)

  forward_next : (b : Begun) {f : Result Found Refusal} → Resumed ws f → goes_on_of ws b f ≡ Tell t n → n ≤ length ws
  forward_next k (goes {d} {n = m} h) e = go (eqb m (length ws)) e
    where
      go : (b : Bool) → cond b (Carry (Some (begun d k.at))) (Tell (Joined d k.at) m) ≡ Tell t n → n ≤ length ws
      go true e = absurd (carry_tell e)
      go false e = rw (← (tell_back e).1) h
  forward_next k refused e = rw (← (tell_back e).1) (omega arith)

  pub forward : (k : Carried) → step_of ws at k ≡ Tell t n → Forward ws k n
  unfolding step_of
  forward None e = let p = forward_first (found_of ws 0) refl e in record { within = p.1; later = λ q. p.0 }
  forward (Some b) e = record { within = forward_next b (resumed ws b.constant) e; later = λ q. absurd (no_nothing q) }
    where
      no_nothing : Some b ≡ None → ⊥
      no_nothing q = let z : ◌≡◌ {A = ℕ} 0 1 = cc in omega arith

-- so the words that are left, twice, and what is carried get fewer
pub nearer : (ws : List ℕ) (at n : ℕ) (t : Told) (k : Carried) → step_of ws at k ≡ Tell t n → 2 * (length ws - n) < 2 * length ws + held k
nearer ws at n t None e = let f = forward ws at t n None e in omega (arith, f.within, f.later refl)
nearer ws at n t (Some b) e = omega (arith, (forward ws at t n (Some b) e).within)

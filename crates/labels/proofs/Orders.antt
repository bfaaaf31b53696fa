-- The same binds and uses in another order give the same words. Assumes nothing.
use mathlib.Core.Path.{◌≡◌, refl, sym, ap, subst, ◌∙◌}
use mathlib.Core.List.{List, [], ◌∷◌, ◌++◌, map, append_assoc, append-nil}
use mathlib.Core.List.Permᴰ
use mathlib.Core.List.{Permᴰ}
use Prim.Native.Nat.{ℕ, ◌+◌, ◌<◌, ◌≤◌}
use native.Mathlib.Numerals.{add-one}
use native.Mathlib.Omega.{arith}
use borrow.Author.Tests.{eqb-true}
use lib.ListN.{length, get_or, set, take}
use lib.Seq.{get_or-set_same, get_or-set_other, take-suc-set}
use Rattle.words.specs.Said.{ok}
use Rattle.words.specs.Place.{pos_of}
use Rattle.words.specs.declared.Place.{Place}
use Rattle.labels.specs.declared.Use.{Use}
use Rattle.labels.specs.Order.{first}
use Rattle.labels.specs.Puts.{puts, Free, Apart}
use Rattle.labels.specs.Sheet.{room_for, names, bind_tests, bind_of, use_record, use_of, pair_of, filled, finish_of}
use Rattle.labels.specs.Calls.{Call, bind, «use», Book, Goes}
use Rattle.labels.proofs.Decides.{label_in}
use Rattle.labels.proofs.Puts.{puts_order}
use Rattle.labels.proofs.Tests.{numbers, first_passed, answer_done}
use Rattle.labels.proofs.Finishing.{apart, room_in, number_of_use, finish_fills, finish_sound}
use Rattle.labels.proofs.Coded.{may_room}

-- ---- what an accepted call does

-- the label is one of the table, it was unbound, and it is bound now
pub bound : (ls ws : List ℕ) (l : ℕ) (at : Place) (ls' : List ℕ) → bind_of ls ws l at ≡ (ok tt, ls')
    → (l < length ls) × (get_or ls l 0 ≡ 0) × (ls' ≡ set ls l (pos_of at + 1))
bound ls ws l at ls' h =
    let ts = bind_tests ls ws l at in
    let d = answer_done tt ls (set ls l (pos_of at + 1)) (first ts 0) tt ls' (sym h) in
    let p = (first_passed ts 0 (numbers ts refl) d.0).0 in
    (label_in ls l p.1.0, eqb-true (get_or ls l 0) 0 p.1.1.0, d.2)

-- the sheet had room, and the use stands behind the others
pub used : (ls ws : List ℕ) (us : List Use) (n : ℕ) (at : Place) (u : Use) (m : ℕ) (us' : List Use) → use_of ls ws us n at u ≡ (ok m, us')
    → (n + 1 ≤ length us) × (m ≡ n + 1) × (us' ≡ set us n u)
used ls ws us n at u m us' h =
    let d = answer_done (n + 1) us (set us n u) (number_of_use ls ws us n at u) m us' (sym h) in
    (room_in (length us) (n + 1) (may_room ls ws at u (names u.at (take n us)) (room_for (length us) (n + 1)) d.0), d.1, d.2)

-- ---- the binds and the uses of some calls

-- the parts of the calls, f giving those of one
abbrev gather : {A : Type 0} → (Call → List A) → List Call → List A
gather f [] = []
gather f (c ∷ cs) = f c ++ gather f cs

abbrev binds_in : Call → List (ℕ × ℕ)
binds_in (bind l at) = (l, pos_of at + 1) ∷ []
binds_in («use» l at f) = []

abbrev uses_in : Call → List Use
uses_in (bind l at) = []
uses_in («use» l at f) = use_record l at f ∷ []

abbrev binds : List Call → List (ℕ × ℕ)
binds = gather binds_in

abbrev uses : List Call → List Use
uses = gather uses_in

-- a book after a bind and after a use
abbrev after_bind : Book → List ℕ → Book
after_bind s ls = record { labels = ls; uses = s.uses; count = s.count }

abbrev after_use : Book → List Use → ℕ → Book
after_use s us n = record { labels = s.labels; uses = us; count = n }

module _ (ws : List ℕ) where
  -- the table has the binds
  goes_labels : (cs : List Call) (s t : Book) → Goes ws cs s t → t.labels ≡ puts s.labels (binds cs)
  goes_labels [] s t g = sym (ap (λ (b : Book). b.labels) g)
  goes_labels (bind l at ∷ cs) s t g =
      goes_labels cs (after_bind s g.0) t g.1.1 ∙ ap (λ (ls : List ℕ). puts ls (binds cs)) (bound s.labels ws l at g.0 g.1.0).2
  goes_labels («use» l at f ∷ cs) s t g = goes_labels cs (after_use s g.1.0 g.0) t g.1.1.1

  -- what is bound is not bound again
  goes_free : (cs : List Call) (s t : Book) (k : ℕ) → Goes ws cs s t → (get_or s.labels k 0 ≡ 0 → ⊥) → Free k (binds cs)
  goes_free [] s t k g h = tt
  goes_free (bind l at ∷ cs) s t k g h =
      let b = bound s.labels ws l at g.0 g.1.0 in
      let n : k ≡ l → ⊥ = λ e. h (ap (λ (j : ℕ). get_or s.labels j 0) e ∙ b.1) in
      let f : get_or g.0 k 0 ≡ get_or s.labels k 0 = ap (λ (x : List ℕ). get_or x k 0) b.2 ∙ get_or-set_other s.labels l k (pos_of at + 1) 0 n in
      (n, goes_free cs (after_bind s g.0) t k g.1.1 (λ e. h (sym f ∙ e)))
  goes_free («use» l at f ∷ cs) s t k g h = goes_free cs (after_use s g.1.0 g.0) t k g.1.1.1 h

  goes_apart : (cs : List Call) (s t : Book) → Goes ws cs s t → Apart (binds cs)
  goes_apart [] s t g = tt
  goes_apart (bind l at ∷ cs) s t g =
      let b = bound s.labels ws l at g.0 g.1.0 in
      let f : get_or g.0 l 0 ≡ pos_of at + 1 = ap (λ (x : List ℕ). get_or x l 0) b.2 ∙ get_or-set_same s.labels l (pos_of at + 1) 0 b.0 in
      (goes_free cs (after_bind s g.0) t l g.1.1 (λ e. omega arith), goes_apart cs (after_bind s g.0) t g.1.1)
  goes_apart («use» l at f ∷ cs) s t g = goes_apart cs (after_use s g.1.0 g.0) t g.1.1.1

  -- the sheet has the uses, after those that it had
  goes_uses : (cs : List Call) (s t : Book) → Goes ws cs s t → take t.count t.uses ≡ take s.count s.uses ++ uses cs
  goes_uses [] s t g = ap (λ (b : Book). take b.count b.uses) (sym g) ∙ sym (append-nil (take s.count s.uses))
  goes_uses (bind l at ∷ cs) s t g = goes_uses cs (after_bind s g.0) t g.1.1
  goes_uses («use» l at f ∷ cs) s t g =
      let u = use_record l at f in
      let b = used s.labels ws s.uses s.count at u g.0 g.1.0 g.1.1.0 in
      let e : take g.0 g.1.0 ≡ take s.count s.uses ++ (u ∷ []) =
      rw (b.1, b.2, add-one) (take-suc-set s.uses s.count u (omega (arith, b.0))) in
      goes_uses cs (after_use s g.1.0 g.0) t g.1.1.1
      ∙ ap (λ (x : List Use). x ++ uses cs) e ∙ append_assoc (take s.count s.uses) (u ∷ []) (uses cs)

-- ---- another order

swap_lists : {A : Type 0} (x y t : List A) → Permᴰ (x ++ (y ++ t)) (y ++ (x ++ t))
swap_lists [] y t = Permᴰ.refl (y ++ t)
swap_lists (a ∷ x) y t = Permᴰ.trans (Permᴰ.cons refl (swap_lists x y t)) (Permᴰ.symm (Permᴰ.middle a y (x ++ t)))

gather_order : {A : Type 0} (f : Call → List A) {cs ds : List Call} → Permᴰ cs ds → Permᴰ (gather f cs) (gather f ds)
gather_order f Permᴰ.nil = Permᴰ.nil
gather_order f (Permᴰ.cons {a = a} {l₁ = l₁} {l₂ = l₂} e d) =
    subst (λ (c : Call). Permᴰ (f a ++ gather f l₁) (f c ++ gather f l₂)) e (Permᴰ.append_left (f a) (gather_order f d))
gather_order f (Permᴰ.swap {a = a} {b = b} {b' = y} {l = l} e₁ e₂) =
    subst (λ (c : Call). Permᴰ (f a ++ (f b ++ gather f l)) (f c ++ (f y ++ gather f l))) e₂
    (subst (λ (c : Call). Permᴰ (f a ++ (f b ++ gather f l)) (f b ++ (f c ++ gather f l))) e₁ (swap_lists (f a) (f b) (gather f l)))
gather_order f (Permᴰ.trans d₁ d₂) = Permᴰ.trans (gather_order f d₁) (gather_order f d₂)

map_order : {A B : Type 0} (f : A → B) {l m : List A} → Permᴰ l m → Permᴰ (map f l) (map f m)
map_order f Permᴰ.nil = Permᴰ.nil
map_order f (Permᴰ.cons e d) = Permᴰ.cons (ap f e) (map_order f d)
map_order f (Permᴰ.swap e₁ e₂) = Permᴰ.swap (ap f e₁) (ap f e₂)
map_order f (Permᴰ.trans d₁ d₂) = Permᴰ.trans (map_order f d₁) (map_order f d₂)

module _ (ws : List ℕ) (cs ds : List Call) (s t t' : Book) (order : Permᴰ cs ds) (one : Goes ws cs s t) (other : Goes ws ds s t') where
  pub same_labels : t.labels ≡ t'.labels
  same_labels =
      goes_labels ws cs s t one ∙ puts_order s.labels (gather_order binds_in order) (goes_apart ws cs s t one) ∙ sym (goes_labels ws ds s t' other)

  pub same_uses : Permᴰ (take t.count t.uses) (take t'.count t'.uses)
  same_uses =
      rw (goes_uses ws cs s t one, goes_uses ws ds s t' other) (Permᴰ.append_left (take s.count s.uses) (gather_order uses_in order))

  -- from one state, with one finish at one place, last, and every call accepted
  pub any_order : (at : Place) (k k' : ℕ) (ws₁ ws₂ : List ℕ) → finish_of at t.labels ws t.uses t.count ≡ (ok k, ws₁)
      → finish_of at t'.labels ws t'.uses t'.count ≡ (ok k', ws₂) → ws₁ ≡ ws₂
  any_order at k k' ws₁ ws₂ e₁ e₂ =
      let d = (finish_sound at t.labels ws t.uses t.count k ws₁ e₁).1 in
      finish_fills at t.labels ws t.uses t.count k ws₁ e₁
      ∙ puts_order ws (map_order (pair_of at t.labels ws) same_uses) (apart at t.labels ws (take t.count t.uses) d)
      ∙ ap (λ (ls : List ℕ). filled at ls ws (take t'.count t'.uses)) same_labels
      ∙ sym (finish_fills at t'.labels ws t'.uses t'.count k' ws₂ e₂)

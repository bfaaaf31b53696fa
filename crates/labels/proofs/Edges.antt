-- Both sides of each limit, whatever the limits are: the last label and the first that is none, the last use that the limit takes and the next, a
-- table and a sheet that are shorter, the end of the run, and a base that is no multiple of 4. Assumes nothing.
use mathlib.Core.Path.{◌≡◌, refl, ap, ◌∙◌}
use mathlib.Core.Bool.{Bool, true, false, cond}
use mathlib.Core.List.{List, []}
use Prim.Native.Nat.{ℕ, ◌+◌, ◌%◌, ◌<◌, ◌≤◌}
use native.Mathlib.Nat.{le_refl}
use native.Mathlib.Omega.{arith}
use borrow.Author.Tests.{lt-ltb, le-ltb, le-leb, lt-leb, eq-eqb, ne_eqb}
use lib.Dec.{leb, ltb}
use lib.ListN.{length, get_or, set, take}
use Rattle.words.specs.Said.{ok, no}
use Rattle.words.specs.Place.{base_of, pos_of, Aligned}
use Rattle.words.specs.declared.Place.{Place}
use Rattle.labels.specs.declared.Use.{Use}
use Rattle.labels.specs.Limits.{label_limit, use_limit}
use Rattle.labels.specs.Order.{answer}
use Rattle.labels.specs.Sheet.{aligned, names_label, room_for, names, bind_of, use_refusal, use_of, check_of, filled, finish_of}

aligned_yes : (at : Place) → Aligned at → aligned at ≡ true
unfolding aligned
aligned_yes at a = eq-eqb (base_of at % 4) 0 a

aligned_no : (at : Place) → (Aligned at → ⊥) → aligned at ≡ false
unfolding aligned
aligned_no at a = ne_eqb (base_of at % 4) 0 a

never_both : (b : Bool) → cond b false false ≡ false
never_both true = refl
never_both false = refl

-- ---- a base that is no multiple of 4 is all that is said

module _ (at : Place) (odd : Aligned at → ⊥) where
  pub bind_15 : (ls ws : List ℕ) (l : ℕ) → bind_of ls ws l at ≡ (no 15, ls)
  bind_15 ls ws l = simp (aligned_no at odd)

  pub use_15 : (ls ws : List ℕ) (us : List Use) (n : ℕ) (u : Use) → use_of ls ws us n at u ≡ (no 15, us)
  unfolding use_refusal
  use_15 ls ws us n u = simp (aligned_no at odd)

  pub finish_15 : (ls ws : List ℕ) (us : List Use) (n : ℕ) → finish_of at ls ws us n ≡ (no 15, ws)
  finish_15 ls ws us n = simp (aligned_no at odd)

-- ---- labels

pub last_label : (ls : List ℕ) (l : ℕ) → l < label_limit → l < length ls → names_label ls l ≡ true
unfolding names_label
last_label ls l h i = simp (lt-ltb l label_limit h, lt-ltb l (length ls) i)

pub no_label : (ls : List ℕ) (l : ℕ) → label_limit ≤ l → names_label ls l ≡ false
unfolding names_label
no_label ls l h = simp (le-ltb l label_limit h)

-- a shorter table has the labels below its own length
pub short_label : (ls : List ℕ) (l : ℕ) → length ls ≤ l → names_label ls l ≡ false
unfolding names_label
short_label ls l h = rw (le-ltb l (length ls) h) (never_both (ltb l label_limit))

module _ (ls ws : List ℕ) (at : Place) (a : Aligned at) where
  -- a table of labelLimit entries or more takes the label labelLimit - 1, and none takes labelLimit; the end of the run may be bound
  pub bind_last : (l : ℕ) → l + 1 ≡ label_limit → label_limit ≤ length ls → get_or ls l 0 ≡ 0 → pos_of at ≤ length ws
      → bind_of ls ws l at ≡ (ok tt, set ls l (pos_of at + 1))
  bind_last l e h z i =
      simp (aligned_yes at a, last_label ls l (omega (arith, e)) (omega (arith, e)), eq-eqb _ _ z, le-leb (pos_of at) (length ws) i)

  pub bind_past : bind_of ls ws label_limit at ≡ (no 12, ls)
  bind_past = simp (aligned_yes at a, no_label ls label_limit (le_refl label_limit))

  pub bind_short : bind_of ls ws (length ls) at ≡ (no 12, ls)
  bind_short = simp (aligned_yes at a, short_label ls (length ls) (le_refl (length ls)))

  -- nothing past the end is bound
  pub bind_over : (l : ℕ) → l < label_limit → l < length ls → get_or ls l 0 ≡ 0 → length ws < pos_of at → bind_of ls ws l at ≡ (no 8, ls)
  bind_over l h k z i = simp (aligned_yes at a, last_label ls l h k, eq-eqb _ _ z, lt-leb (pos_of at) (length ws) i)

  -- and a use of a label that is none
  pub use_no_label : (us : List Use) (n : ℕ) (u : Use) → u.format < 6 → names_label ls u.label ≡ false → use_of ls ws us n at u ≡ (no 12, us)
  unfolding use_refusal
  use_no_label us n u f e = simp (aligned_yes at a, lt-ltb u.format 6 f, e)

-- ---- room for uses

module _ (there n : ℕ) where
  pub room_yes : n ≤ use_limit → n ≤ there → room_for there n ≡ true
  unfolding room_for
  room_yes h i = simp (le-leb n use_limit h, le-leb n there i)

  pub room_limit : use_limit < n → room_for there n ≡ false
  unfolding room_for
  room_limit h = simp (lt-leb n use_limit h)

  pub room_length : there < n → room_for there n ≡ false
  unfolding room_for
  room_length h = rw (lt-leb n there h) (never_both (leb n use_limit))

-- a use that nothing but room could refuse
module _ (ls ws : List ℕ) (us : List Use) (n : ℕ) (at : Place) (u : Use)
    (good : (room : Bool) → use_refusal ls ws at u (names u.at (take n us)) room ≡ cond room 0 14) where
  by_room : (b : Bool) → room_for (length us) (n + 1) ≡ b → use_of ls ws us n at u ≡ answer (cond b 0 14) (n + 1) us (set us n u)
  by_room b e =
      ap (λ (k : ℕ). answer k (n + 1) us (set us n u)) (good (room_for (length us) (n + 1)) ∙ ap (λ (r : Bool). cond r 0 14) e)

  pub use_last : n + 1 ≡ use_limit → use_limit ≤ length us → use_of ls ws us n at u ≡ (ok use_limit, set us n u)
  use_last e h = by_room true (room_yes (length us) (n + 1) (omega (arith, e)) (omega (arith, e, h))) ∙ rw e

  pub use_past : use_limit ≤ n → use_of ls ws us n at u ≡ (no 14, us)
  use_past h = by_room false (room_limit (length us) (n + 1) (omega (arith, h)))

  -- a shorter sheet is full at its own length
  pub use_short : length us ≤ n → use_of ls ws us n at u ≡ (no 14, us)
  use_short h = by_room false (room_length (length us) (n + 1) (omega (arith, h)))

-- ---- finishing

module _ (at : Place) (ls ws : List ℕ) (us : List Use) (a : Aligned at) where
  pub finish_full : (n : ℕ) → room_for (length us) n ≡ false → finish_of at ls ws us n ≡ (no 14, ws)
  finish_full n h = simp (aligned_yes at a, h)

  pub finish_past : finish_of at ls ws us (use_limit + 1) ≡ (no 14, ws)
  finish_past = finish_full (use_limit + 1) (room_limit (length us) (use_limit + 1) (omega arith))

  pub finish_short : finish_of at ls ws us (length us + 1) ≡ (no 14, ws)
  finish_short = finish_full (length us + 1) (room_length (length us) (length us + 1) (omega arith))

  -- at the limit the uses themselves decide
  pub finish_at : use_limit ≤ length us
      → finish_of at ls ws us use_limit ≡ answer (check_of at ls ws [] (take use_limit us)) 0 ws (filled at ls ws (take use_limit us))
  finish_at h = simp (aligned_yes at a, room_yes (length us) use_limit (le_refl use_limit) h)

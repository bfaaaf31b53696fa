-- A pass over the halfwords of a value, by how many it has passed. Assumes nothing.
use mathlib.Core.Path.{◌≡◌, refl}
use mathlib.Core.List.{List}
use mathlib.Core.Bool.{Bool, true, false, cond}
use Prim.Native.Nat.{ℕ, zero, suc, ◌+◌, ◌*◌, ◌/◌, ◌%◌, ◌^◌, ◌<◌, ◌≤◌}
use native.Mathlib.Numerals.{add-one}
use native.Mathlib.Omega.{arith}
use borrow.Author.Tests.{eqb-true, eqb-false}
use lib.Dec.{eqb}
use lib.ListN.{get_or}
use lib.Pow.{shr-shr}
use mir.Val.{bool_byte}
use Rattle.halfwords.specs.Halfwords.{half, same, count, Halved}

-- how many of the lowest n halfwords are f
abbrev pub among : ℕ → ℕ → ℕ → ℕ
among f zero v = 0
among f (suc n) v = among f n v + same f (half v n)

-- what is left of the value above them
abbrev pub above : ℕ → ℕ → ℕ
above n v = v / 2 ^ (16 * n)

-- a turn passes the lowest halfword of what is left
pub next : (f n v : ℕ) {c left s : ℕ} → c ≡ among f n v → left ≡ above n v → s ≡ same f (left % 2 ^ 16) → c + s ≡ among f (n + 1) v
next f n v c left s = rw (c, s, left, add-one) refl

pub up : (n v : ℕ) {left : ℕ} → left ≡ above n v → left / 2 ^ 16 ≡ above (n + 1) v
up n v left = let e : 16 * (n + 1) ≡ 16 * n + 16 = omega arith in rw (left, e, ← shr-shr v (16 * n) 16)

-- after four turns it has the count
pub all_four : (f v : ℕ) {n c : ℕ} → n ≡ 4 → c ≡ among f n v → c ≡ count f v
unfolding count
all_four f v n c = rw (c, n) (omega arith)

-- the halfword that the pass is at
pub at_index : (v k : ℕ) {l : List ℕ} → Halved v l → k < 4 → get_or l k 0 ≡ half v k
at_index v zero e h = rw e
at_index v (suc zero) e h = rw e
at_index v (suc (suc zero)) e h = rw e
at_index v (suc (suc (suc zero))) e h = rw e
at_index v (suc (suc (suc (suc k)))) e h = absurd (omega arith)

-- told by a test
pub tested : (f h : ℕ) {r : ℕ} → r ≡ bool_byte (eqb h f) → (r ≡ same f h) × (r ≤ 1)
tested f h {r} t = go (eqb h f) t
  where
    go : (b : Bool) → r ≡ bool_byte b → (r ≡ cond b 1 0) × (r ≤ 1)
    go true t = (t, omega arith)
    go false t = (t, omega arith)

-- the same of the halfword that the pass is at
pub told : (f v k : ℕ) {l : List ℕ} {r : ℕ} → Halved v l → k < 4 → r ≡ bool_byte (eqb (get_or l k 0) f) → (r ≡ same f (half v k)) × (r ≤ 1)
told f v k {l} {r} e h t = rw (← at_index v k e h) (tested f (get_or l k 0) t)

-- FFFF alone carries with 1 more
pub carries : (h : ℕ) → h < 2 ^ 16 → (h + 1) / 2 ^ 16 ≡ same 0xFFFF h
carries h l = go (eqb h 0xFFFF) refl
  where
    go : (t : Bool) → eqb h 0xFFFF ≡ t → (h + 1) / 2 ^ 16 ≡ cond t 1 0
    go true e = omega (arith, eqb-true h 0xFFFF e)
    go false e = omega (arith, eqb-false h 0xFFFF e)

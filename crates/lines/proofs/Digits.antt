-- A number's digits, and a number by its tenth. Assumes nothing.
use mathlib.Core.Path.{◌≡◌, ap}
use mathlib.Core.Bool.{Bool, true, false, cond}
use mathlib.Core.List.{List, [], ◌∷◌, ◌++◌}
use Prim.Native.Nat.{ℕ, zero, suc, ◌+◌, ◌/◌, ◌%◌, ◌^◌, ◌≤◌, ◌<◌}
use native.Mathlib.Omega.{arith}
use borrow.Author.Tests.{lt-ltb, le-ltb}
use lib.Dec.{ltb}
use lib.ListN.{length, length-append}
use Rattle.lines.specs.Text.{decimal_in, decimal}

-- one digit's room less is enough for a number that has them all
fewer : (k n : ℕ) → n < 10 ^ suc k → decimal_in (suc k) n ≡ decimal_in (suc (suc k)) n
fewer zero n h = let l : n < 10 = omega arith in simp (lt-ltb n 10 l)
fewer (suc k) n h = ap (λ (t : List ℕ). cond (ltb n 10) ((48 + n) ∷ []) (t ++ ((48 + n % 10) ∷ []))) (fewer k (n / 10) (omega arith))

short_decimal : (k n : ℕ) → length (decimal_in k n) ≤ k
short_decimal zero n = omega arith
short_decimal (suc k) n = go (short_decimal k (n / 10)) (ltb n 10)
  where
    go : length (decimal_in k (n / 10)) ≤ k → (b : Bool) → length (cond b ((48 + n) ∷ []) (decimal_in k (n / 10) ++ ((48 + n % 10) ∷ []))) ≤ suc k
    go h true = omega arith
    go h false = simp length-append (omega arith)

pub decimal_one : (n : ℕ) → n < 10 → decimal n ≡ (48 + n) ∷ []
unfolding decimal
decimal_one n h = simp (lt-ltb n 10 h)

pub decimal_more : (n : ℕ) → 10 ≤ n → n < 2 ^ 64 → decimal n ≡ decimal (n / 10) ++ ((48 + n % 10) ∷ [])
unfolding decimal
decimal_more n h f = simp (le-ltb n 10 h) (ap (λ (t : List ℕ). t ++ ((48 + n % 10) ∷ [])) (fewer 18 (n / 10) (omega arith)))

-- a tenth has a digit less
pub short_tenth : (n : ℕ) → n < 2 ^ 64 → length (decimal (n / 10)) ≤ 19
unfolding decimal
short_tenth n f = rw (← fewer 18 (n / 10) (omega arith)) (short_decimal 19 (n / 10))

pub short_all : (n : ℕ) → length (decimal n) ≤ 20
unfolding decimal
short_all n = short_decimal 20 n

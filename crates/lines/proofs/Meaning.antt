-- Digits are read back to the number they were made of. Assumes nothing.
use mathlib.Core.Path.{◌≡◌, refl, ap, ◌∙◌}
use mathlib.Core.Bool.{Bool, true, false, cond}
use mathlib.Core.List.{List, [], ◌∷◌, ◌++◌}
use Prim.Native.Nat.{ℕ, zero, suc, ◌+◌, ◌-◌, ◌*◌, ◌/◌, ◌%◌, ◌^◌, ◌<◌}
use native.Mathlib.Nat.{zero-add}
use native.Mathlib.Omega.{arith}
use borrow.Author.Tests.{lt-ltb, le-ltb, ltb-true, ltb-false}
use lib.Dec.{ltb}
use Rattle.lines.specs.Text.{digit, hex4, hex8, decimal_in, decimal}

-- the value of a digit's byte, and of digits behind a number, in a base
abbrev pub value_of : ℕ → ℕ
value_of c = cond (ltb c 58) (c - 48) (c - 87)

abbrev pub read_in : ℕ → ℕ → List ℕ → ℕ
read_in b n [] = n
read_in b n (c ∷ cs) = read_in b (n * b + value_of c) cs

value_low : (d : ℕ) → d < 10 → value_of (48 + d) ≡ d
value_low d h = simp (lt-ltb (48 + d) 58 (omega arith)) (omega arith)

value_digit : (d : ℕ) → d < 16 → value_of (digit d) ≡ d
value_digit d h = go (ltb d 10) refl
  where
    go : (b : Bool) → ltb d 10 ≡ b → value_of (digit d) ≡ d
    go true t = let l = ltb-true d 10 t in simp (lt-ltb d 10 l) (value_low d l)
    go false t = let l = ltb-false d 10 t in simp (le-ltb d 10 l, le-ltb (87 + d) 58 (omega arith)) (omega arith)

read_append : (b n : ℕ) (xs ys : List ℕ) → read_in b n (xs ++ ys) ≡ read_in b (read_in b n xs) ys
read_append b n [] ys = refl
read_append b n (x ∷ xs) ys = read_append b (n * b + value_of x) xs ys

decimal_in_lem : (k n : ℕ) → n < 10 ^ k → read_in 10 0 (decimal_in k n) ≡ n
decimal_in_lem zero n h = omega arith
decimal_in_lem (suc k) n h = go (decimal_in_lem k (n / 10) (omega arith)) (ltb n 10) refl
  where
    go : read_in 10 0 (decimal_in k (n / 10)) ≡ n / 10 → (b : Bool) → ltb n 10 ≡ b → read_in 10 0 (decimal_in (suc k) n) ≡ n
    go tenth true t = let l = ltb-true n 10 t in simp (lt-ltb n 10 l, value_low n l, zero-add)
    go tenth false t =
        let l = ltb-false n 10 t in
        simp (le-ltb n 10 l, read_append, tenth, value_low (n % 10) (omega arith)) (omega arith)

-- a number below 2 ^ 64 stands whole in its line
pub decimal_back : (n : ℕ) → n < 2 ^ 64 → read_in 10 0 (decimal n) ≡ n
unfolding decimal
decimal_back n h = decimal_in_lem 20 n (omega arith)

four_digits : (n a b c d x y z : ℕ) → x ≡ a * 4096 + y → y ≡ b * 256 + z → z ≡ c * 16 + d
    → (((n * 16 + a) * 16 + b) * 16 + c) * 16 + d ≡ n * 65536 + x
four_digits n a b c d x y z p q r = omega arith

half_back : (n w : ℕ) → read_in 16 n (hex4 w) ≡ n * 65536 + w % 65536
half_back n w =
    simp (
      value_digit (w / 4096 % 16) (omega arith),
      value_digit (w / 256 % 16) (omega arith),
      value_digit (w / 16 % 16) (omega arith),
      value_digit (w % 16) (omega arith),
    ) (four_digits n _ _ _ _ _ (w % 4096) (w % 256) (omega arith) (omega arith) (omega arith))

-- and so does a word
pub hex_back : (w : ℕ) → w < 2 ^ 32 → read_in 16 0 (hex8 w) ≡ w
hex_back w h =
    read_append 16 0 (hex4 (w / 65536)) (hex4 w) ∙ half_back (read_in 16 0 (hex4 (w / 65536))) w
    ∙ ap (λ (n : ℕ). n * 65536 + w % 65536) (half_back 0 (w / 65536)) ∙ omega arith

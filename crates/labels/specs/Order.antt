-- Tests in an order, and an answer that changes nothing where one refuses. Assumes nothing.
use Rattle.std.specs.Prelude.{Bool, cond, List, [], ◌∷◌, ℕ, zero, suc, Result, Ok, Err}
use Rattle.words.specs.Said.{Said, ok, no}
use Rattle.words.specs.Answer.{number_of}
use Rattle.words.specs.declared.Refusal.{Refusal}

-- the number of the first test that is not passed; where all are, k
abbrev pub first : List (Bool × ℕ) → ℕ → ℕ
first [] k = k
first (t ∷ ts) k = cond t.0 (first ts k) t.1

-- of two numbers the first that refuses; 0 refuses nothing
abbrev pub or_else : ℕ → ℕ → ℕ
or_else zero k = k
or_else (suc r) k = suc r

-- what is said, and what was lent as it then is: where nothing refuses x and the new; else the number and the old
abbrev pub answer : {A B : Type 0} → ℕ → A → B → B → Said A × B
answer zero x old new = (ok x, new)
answer (suc r) x old new = (no (suc r), old)

-- the number by which a test's answer refuses, 0 where it does not
abbrev pub code_of : Result Unit Refusal → ℕ
code_of (Ok u) = 0
code_of (Err r) = number_of r

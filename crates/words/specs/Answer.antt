-- The number of each refusal, and the numbers and values of each answer. Assumes nothing.
use Rattle.std.specs.Prelude.{◌≡◌, ℕ, List, [], ◌∷◌, slice_index_or, Result, Ok, Err, MatchResult}
use Rattle.words.specs.Said.{Said, ok, no}
use Rattle.words.specs.declared.Refusal.{Refusal}
use Rattle.words.specs.declared.Refusal.TheVariants.{Width, Register, NoField, Step, Range, Taken, Unknown, NoRoom, Index, ZeroBase, WrongForm, Label, Twice, Full, Unaligned, Again}
use Rattle.words.specs.declared.NoRefusal.{NoRefusal}

-- "Numbers given when a request is turned down", and from 11 on those of document 02
abbrev pub number_of : Refusal → ℕ
number_of Width = 1
number_of Register = 2
number_of NoField = 3
number_of Step = 4
number_of Range = 5
number_of Taken = 6
number_of Unknown = 7
number_of NoRoom = 8
number_of Index = 9
number_of ZeroBase = 10
number_of WrongForm = 11
number_of Label = 12
number_of Twice = 13
number_of Full = 14
number_of Unaligned = 15
number_of Again = 16

-- the refusals by their numbers; where a number has none, the first
abbrev pub refusals : List Refusal
refusals =
    Width ∷ Width ∷ Register ∷ NoField ∷ Step ∷ Range ∷ Taken ∷ Unknown ∷ NoRoom ∷ Index ∷ ZeroBase ∷ WrongForm ∷ Label ∷ Twice ∷ Full ∷ Unaligned ∷ Again ∷ []

abbrev pub refusal_of : ℕ → Refusal
refusal_of n = slice_index_or refusals n Width

-- a number that some refusal has
abbrev pub IsNumber : ℕ → Type 0
IsNumber n = (r : Refusal) × (number_of r ≡ n)

-- the refusal that has a number, or the number, which none has
abbrev pub Numbers : ℕ → Result Refusal NoRefusal → Type 0
Numbers n x = MatchResult x (λ r. number_of r ≡ n) (λ e. (e.0 ≡ n) × (IsNumber n → ⊥))

-- an answer says its value, or its refusal's number
abbrev pub said : {A : Type 0} → Result A Refusal → Said A
said (Ok a) = ok a
said (Err r) = no (number_of r)

-- the same of a value as something is to be read in it
abbrev pub said_as : {A B : Type 0} → (A → B) → Result A Refusal → Said B
said_as f (Ok a) = ok (f a)
said_as f (Err r) = no (number_of r)

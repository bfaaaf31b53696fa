-- A refusal is known by its number, an answer by what it says, and words by their list. Assumes nothing.
use Rattle.std.proofs.Common.{◌≡◌, ℕ, ◌<◌, ◌≤◌, List, [], ◌∷◌, length, get_or, sym, refl, ap, ◌∙◌, arith, lit≤}
use Rattle.std.specs.Prelude.{zero, suc, Result, Ok, Err}
use Rattle.std.specs.Result.{result_unwrap_or}
use Rattle.words.specs.Said.{Said, ok, no}
use Rattle.words.specs.Answer.{number_of, refusal_of, IsNumber, Numbers, said, said_as}
use Rattle.words.specs.Listed.{list_of, words_of, listed, packed}
use Rattle.words.specs.declared.NoRefusal.{NoRefusal}
use Rattle.words.specs.declared.Refusal.{Refusal}
use Rattle.words.specs.declared.Refusal.TheVariants.{Width, Register, NoField, Step, Range, Taken, Unknown, NoRoom, Index, ZeroBase, WrongForm, Label, Twice, Full, Unaligned, Again}

-- ---- what says all of a thing is known by that

-- two things are one where the same is said of them, and each can be made of that again
pub all_said : {X Y : Type 0} (say : X → Y) (unsay : Y → X) → ((x : X) → unsay (say x) ≡ x) → (r s : X) → say r ≡ say s → r ≡ s
all_said say unsay back r s e = sym (back r) ∙ ap unsay e ∙ back s

pub refusal_back : (r : Refusal) → refusal_of (number_of r) ≡ r
refusal_back Width = refl
refusal_back Register = refl
refusal_back NoField = refl
refusal_back Step = refl
refusal_back Range = refl
refusal_back Taken = refl
refusal_back Unknown = refl
refusal_back NoRoom = refl
refusal_back Index = refl
refusal_back ZeroBase = refl
refusal_back WrongForm = refl
refusal_back Label = refl
refusal_back Twice = refl
refusal_back Full = refl
refusal_back Unaligned = refl
refusal_back Again = refl

-- a number is one refusal's
pub number_all : (r s : Refusal) → number_of r ≡ number_of s → r ≡ s
number_all = all_said number_of refusal_of refusal_back

-- a number that none has is 0 or past the last one, where the first refusal stands
pub none_has : (n : ℕ) → (IsNumber n → ⊥) → refusal_of n ≡ Width
none_has zero h = refl
none_has (suc zero) h = absurd (h (Width, refl))
none_has (suc (suc zero)) h = absurd (h (Register, refl))
none_has (suc (suc (suc zero))) h = absurd (h (NoField, refl))
none_has (suc (suc (suc (suc zero)))) h = absurd (h (Step, refl))
none_has (suc (suc (suc (suc (suc zero))))) h = absurd (h (Range, refl))
none_has (suc (suc (suc (suc (suc (suc zero)))))) h = absurd (h (Taken, refl))
none_has (suc (suc (suc (suc (suc (suc (suc zero))))))) h = absurd (h (Unknown, refl))
none_has (suc (suc (suc (suc (suc (suc (suc (suc zero)))))))) h = absurd (h (NoRoom, refl))
none_has (suc (suc (suc (suc (suc (suc (suc (suc (suc zero))))))))) h = absurd (h (Index, refl))
none_has (suc (suc (suc (suc (suc (suc (suc (suc (suc (suc zero)))))))))) h = absurd (h (ZeroBase, refl))
none_has (suc (suc (suc (suc (suc (suc (suc (suc (suc (suc (suc zero))))))))))) h = absurd (h (WrongForm, refl))
none_has (suc (suc (suc (suc (suc (suc (suc (suc (suc (suc (suc (suc zero)))))))))))) h = absurd (h (Label, refl))
none_has (suc (suc (suc (suc (suc (suc (suc (suc (suc (suc (suc (suc (suc zero))))))))))))) h = absurd (h (Twice, refl))
none_has (suc (suc (suc (suc (suc (suc (suc (suc (suc (suc (suc (suc (suc (suc zero)))))))))))))) h = absurd (h (Full, refl))
none_has (suc (suc (suc (suc (suc (suc (suc (suc (suc (suc (suc (suc (suc (suc (suc zero))))))))))))))) h = absurd (h (Unaligned, refl))
none_has (suc (suc (suc (suc (suc (suc (suc (suc (suc (suc (suc (suc (suc (suc (suc (suc zero)))))))))))))))) h = absurd (h (Again, refl))
none_has (suc (suc (suc (suc (suc (suc (suc (suc (suc (suc (suc (suc (suc (suc (suc (suc (suc n))))))))))))))))) h = refl

-- so what the conversion of a number gives, or else the first refusal, is the table's
pub numbers_of : (n : ℕ) (x : Result Refusal NoRefusal) → Numbers n x → result_unwrap_or x Width ≡ refusal_of n
numbers_of n (Ok r) h = sym (refusal_back r) ∙ ap refusal_of h
numbers_of n (Err e) h = sym (none_has n h.1)

-- and the conversion gives one thing
pub numbers_one : (n : ℕ) (x y : Result Refusal NoRefusal) → Numbers n x → Numbers n y → x ≡ y
numbers_one n (Ok r) (Ok s) p q = ap Ok (number_all r s (p ∙ sym q))
numbers_one n (Ok r) (Err e) p q = absurd (q.1 (r, p))
numbers_one n (Err e) (Ok s) p q = absurd (p.1 (s, q))
numbers_one n (Err e) (Err f) p q = ap (λ (k : ℕ). Err (record { 0 = k })) (p.0 ∙ sym q.0)

-- which is 1 at least, and fits five bits
pub number_fits : {n : ℕ} → IsNumber n → (1 ≤ n) × (n < 32)
number_fits (r, e) = let h = go r in (omega arith, omega arith)
  where
    go : (r : Refusal) → (1 ≤ number_of r) × (number_of r < 32)
    go Width = (lit≤ tt, lit≤ tt)
    go Register = (lit≤ tt, lit≤ tt)
    go NoField = (lit≤ tt, lit≤ tt)
    go Step = (lit≤ tt, lit≤ tt)
    go Range = (lit≤ tt, lit≤ tt)
    go Taken = (lit≤ tt, lit≤ tt)
    go Unknown = (lit≤ tt, lit≤ tt)
    go NoRoom = (lit≤ tt, lit≤ tt)
    go Index = (lit≤ tt, lit≤ tt)
    go ZeroBase = (lit≤ tt, lit≤ tt)
    go WrongForm = (lit≤ tt, lit≤ tt)
    go Label = (lit≤ tt, lit≤ tt)
    go Twice = (lit≤ tt, lit≤ tt)
    go Full = (lit≤ tt, lit≤ tt)
    go Again = (lit≤ tt, lit≤ tt)
    go Unaligned = (lit≤ tt, lit≤ tt)

-- a value is no refusal
pub not_both : {A : Type 0} {a : A} {n : ℕ} → ◌≡◌ {A = Said A} (ok a) (no n) → ⊥
not_both e = let z : ◌≡◌ {A = ℕ} 0 1 = cc in omega arith

-- an answer by what it says
module _ {A X : Type 0} (value : A → X) (refusal : Refusal → X) where
  abbrev pub answered : Said A → X
  answered (ok a) = value a
  answered (no n) = refusal (refusal_of n)

said_back : {A : Type 0} (r : Result A Refusal) → answered Ok Err (said r) ≡ r
said_back (Ok a) = refl
said_back (Err r) = ap Err (refusal_back r)

pub said_all : {A : Type 0} (r s : Result A Refusal) → said r ≡ said s → r ≡ s
said_all = all_said said (answered Ok Err) said_back

-- the same where a value is read in another form, from which it is had again
module _ {A B : Type 0} (f : A → B) (g : B → A) (back : (a : A) → g (f a) ≡ a) where
  abbrev answered_as : Said B → Result A Refusal
  answered_as (ok b) = Ok (g b)
  answered_as (no n) = Err (refusal_of n)

  said_as_back : (r : Result A Refusal) → answered_as (said_as f r) ≡ r
  said_as_back (Ok a) = ap Ok (back a)
  said_as_back (Err r) = ap Err (refusal_back r)

  pub said_as_all : (r s : Result A Refusal) → said_as f r ≡ said_as f s → r ≡ s
  said_as_all = all_said (said_as f) answered_as said_as_back

-- at most four words, by value and back
pub list_back : (ws : List ℕ) → length ws ≤ 4 → list_of (words_of ws) ≡ ws
list_back [] h = refl
list_back (a ∷ []) h = refl
list_back (a ∷ b ∷ []) h = refl
list_back (a ∷ b ∷ c ∷ []) h = refl
list_back (a ∷ b ∷ c ∷ d ∷ []) h = refl
list_back (a ∷ b ∷ c ∷ d ∷ e ∷ ws) h = absurd (omega arith)

abbrev pub Short : Said (List ℕ) → Type 0
Short (ok ws) = length ws ≤ 4
Short (no n) = Unit

-- one word, or a refusal
abbrev pub Alone : Said (List ℕ) → Type 0
Alone (ok ws) = length ws ≡ 1
Alone (no n) = Unit

-- what is refused has a refusal's number
abbrev pub Numbered : {A : Type 0} → Said A → Type 0
Numbered (ok a) = Unit
Numbered (no n) = IsNumber n

pub alone_short : (x : Said (List ℕ)) → Alone x → Short x
alone_short (ok ws) h = omega arith
alone_short (no n) h = tt

-- the word of it
pub alone_word : (x : Said (List ℕ)) (ws : List ℕ) → Alone x → x ≡ ok ws → x ≡ ok (get_or ws 0 0 ∷ [])
alone_word (no n) ws h e = absurd (not_both (sym e))
alone_word (ok []) ws h e = absurd (omega arith)
alone_word (ok (a ∷ [])) ws h e = let same : a ∷ [] ≡ ws = cc in ap (λ (vs : List ℕ). ok (get_or vs 0 0 ∷ [])) same
alone_word (ok (a ∷ b ∷ vs)) ws h e = absurd (omega arith)

pub listed_packed : (x : Said (List ℕ)) → Short x → listed (packed x) ≡ x
listed_packed (ok ws) h = ap ok (list_back ws h)
listed_packed (no n) h = refl

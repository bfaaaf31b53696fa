-- Each public entry's contract allows one answer, and an input prints one list of lines. Assumes nothing.
use mathlib.Core.Path.{◌≡◌, refl, sym, ap, ◌∙◌}
use mathlib.Core.Bool.{Bool, true, false, cond}
use mathlib.Core.List.{List, [], ◌∷◌, ◌++◌}
use Prim.Native.Nat.{ℕ, zero, suc, ◌/◌, ◌%◌, ◌≤◌, ◌<◌}
use native.Mathlib.Omega.{arith}
use native.Mathlib.Nat.{eq-or-lt_of_le, le_of_lt, le_of_suc-le-suc}
use mathlib.Core.Logic.{⊎_elim}
use borrow.Author.Tests.{leb-true, leb-false}
use lib.Dec.{eqb, ltb, leb}
use lib.ListN.{length}
use Rattle.arm.proofs.Tests.{never}
use Rattle.words.specs.Listed.{words_of}
use Rattle.words.specs.Answer.{refusal_of}
use Rattle.words.proofs.Answers.{refusal_back}
use Rattle.words.proofs.Contracts.{OneAnswer, one_answer}
use Rattle.lines.specs.Item.{Item, words, numbers, no, bad_mark, cut_at, items_of}
use Rattle.lines.specs.declared.Answer.{Answer}
use Rattle.lines.specs.declared.Answer.TheVariants.{Nothing, Words, Numbers, No, BadMark, Cut}
use Rattle.logical.proofs.Laws.{one_from}
use Rattle.immediates.proofs.Determined.{one_float}
use Rattle.records.specs.Records.{Asked, move, fields, fp64, other, marked, kind_of, register_of, value_of, asked_by, float_line, Says, LineOf, tail_of}
use Rattle.records.specs.Answers.{Plain}
use Rattle.records.proofs.answer.Reads as answer
use Rattle.records.proofs.tail.Reads as tail
use Rattle.records.specs.Inputs.{record_at, offset_after, ends_at, Told, none, more, Prints, whole, ended}

-- ---- an answer is known by its line

abbrev answer_of : List Item → Answer
answer_of [] = Nothing
answer_of (words ws ∷ is) = Words (words_of ws)
answer_of (numbers ns ∷ is) = Numbers (words_of ns)
answer_of (no n ∷ is) = No (refusal_of n)
answer_of (bad_mark o ∷ is) = BadMark o
answer_of (cut_at o ∷ is) = Cut o

plain_back : (a : Answer) → Plain a → answer_of (items_of a) ≡ a
plain_back Nothing p = refl
plain_back (Words f) p = ap Words (sym p)
plain_back (Numbers f) p = ap Numbers (sym p)
plain_back (No r) p = ap No (refusal_back r)
plain_back (BadMark o) p = refl
plain_back (Cut o) p = refl

pub plain_all : (a b : Answer) → Plain a → Plain b → items_of a ≡ items_of b → a ≡ b
plain_all a b p q e = sym (plain_back a p) ∙ ap answer_of e ∙ plain_back b q

-- ---- a record

pub says_one : (k : Asked) (rd v : ℕ) (i j : Item) → Says k rd v i → Says k rd v j → i ≡ j
says_one move rd v i j p q = one_answer p q
says_one (fields w) rd v i j p q = one_from v p q
says_one fp64 rd v i j (a, e, p) (b, f, q) = p ∙ ap float_line (one_float 64 v a b e f) ∙ sym q
says_one other rd v i j p q = one_answer p q

pub line_one : (r : List ℕ) (offset : ℕ) (i j : Item) → LineOf r offset i → LineOf r offset j → i ≡ j
unfolding LineOf
line_one r offset i j p q = go (marked r) p q
  where
    S : Item → Type 0
    S = Says (asked_by (kind_of r)) (register_of r) (value_of r)

    go : (b : Bool) → cond b (S i) (i ≡ bad_mark offset) → cond b (S j) (j ≡ bad_mark offset) → i ≡ j
    go true p q = says_one (asked_by (kind_of r)) (register_of r) (value_of r) i j p q
    go false p q = one_answer p q

pub answer_determined : OneAnswer answer.Post
answer_determined k a r s x y p q =
    plain_all r s p.plain q.plain (p.line ∙ ap (λ (i : Item). i ∷ []) (line_one _ _ p.item q.item p.says q.says) ∙ sym q.line)

-- ---- a tail

-- no line with a list of numbers
abbrev Bare : List Item → Type 0
Bare [] = Unit
Bare (words ws ∷ is) = ⊥
Bare (numbers ns ∷ is) = ⊥
Bare (no n ∷ is) = Unit
Bare (bad_mark o ∷ is) = Unit
Bare (cut_at o ∷ is) = Unit

bare_plain : (a : Answer) → Bare (items_of a) → Plain a
bare_plain Nothing h = tt
bare_plain (Words f) h = absurd h
bare_plain (Numbers f) h = absurd h
bare_plain (No r) h = tt
bare_plain (BadMark o) h = tt
bare_plain (Cut o) h = tt

bare_tail : (count offset : ℕ) → Bare (tail_of count offset)
bare_tail count offset = go (eqb count 0) (ltb count 12)
  where
    go : (s t : Bool) → Bare (cond s [] (cond t (cut_at offset ∷ []) []))
    go true t = tt
    go false true = tt
    go false false = tt

pub tail_determined : OneAnswer tail.Post
tail_determined k a r s x y p q =
    plain_all r s (bare_plain r (rw p (bare_tail a.0 a.1.0))) (bare_plain s (rw q (bare_tail a.0 a.1.0))) (one_answer p q)

-- ---- an input

module _ {offset : ℕ} {bs : List ℕ} where
  pub told_one : (k : ℕ) {s t : Bool} {is js : List Item} → Told offset bs k s is → Told offset bs k t js → (s ≡ t) × (is ≡ js)
  told_one zero none none = (refl, refl)
  told_one (suc k) (more {is = is} i p l) (more {is = js} j q m) =
      let e = line_one (record_at bs k) (offset_after offset k) i j l m in
      (ap ends_at e, ap (λ (xs : List Item). xs ++ (i ∷ [])) (told_one k p q).1 ∙ ap (λ (x : Item). js ++ (x ∷ [])) e)

  -- nothing goes on behind the end
  before : {k : ℕ} {s : Bool} {is : List Item} → Told offset bs (suc k) s is → (js : List Item) × Told offset bs k false js
  before (more {is = js} i p l) = (js, p)

  pub not_past : (n j : ℕ) {is js : List Item} → Told offset bs n false is → Told offset bs j true js → j ≤ n → ⊥
  not_past zero zero p q h = never (told_one 0 q p).0
  not_past zero (suc j) p q h = omega arith
  not_past (suc n) j p q h =
      ⊎_elim
      (λ (e : j ≡ suc n). never (told_one (suc n) (rw e at q) p).0)
      (λ (l : j < suc n). not_past n j (before p).1 q (le_of_suc-le-suc l))
      (eq-or-lt_of_le h)

  same_end : (k j : ℕ) {is js : List Item} → Told offset bs k true is → Told offset bs j true js → k ≤ j → is ≡ js
  same_end k zero p q h = absurd (not_past 0 k none p h)
  same_end k (suc j) p q h =
      ⊎_elim
      (λ (e : k ≡ suc j). (told_one (suc j) (rw e at p) q).1)
      (λ (l : k < suc j). absurd (not_past j k (before q).1 p (le_of_suc-le-suc l)))
      (eq-or-lt_of_le h)

pub prints_determined : (offset : ℕ) (bs : List ℕ) (is js : List Item) → Prints offset bs is → Prints offset bs js → is ≡ js
prints_determined offset bs is js (whole p) (whole q) = ap (λ (xs : List Item). xs ++ tail_of (length bs % 12) (offset_after offset (length bs / 12))) (told_one (length bs / 12) p q).1
prints_determined offset bs is js (whole p) (ended {k = k} q h) = absurd (not_past (length bs / 12) k p q h)
prints_determined offset bs is js (ended {k = k} p h) (whole q) = absurd (not_past (length bs / 12) k q p h)
prints_determined offset bs is js (ended {k = k} p h) (ended {k = j} q g) = go (leb k j) refl
  where
    go : (b : Bool) → leb k j ≡ b → is ≡ js
    go true t = same_end k j p q (leb-true k j t)
    go false t = sym (same_end j k q p (le_of_lt (leb-false k j t)))

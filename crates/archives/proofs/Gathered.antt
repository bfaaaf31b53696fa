-- The words of bytes, one by one. Assumes nothing.
use Rattle.std.proofs.Common.{◌≡◌, ℕ, zero, suc, ◌+◌, ◌-◌, ◌/◌, ◌<◌, ◌≤◌, List, [], ◌∷◌, length, get_or, take, drop, set, sym, refl, ap, ◌∙◌, zero-add, arith, length-drop, length-take, take_at}
use Rattle.std.specs.Simd.{first_chunks}
use lib.Seq.{sets, sets-eq, take-length}
use Rattle.words.proofs.Runs.{one_more}
use Rattle.archives.specs.Printed.{word_of, words_of}

-- a part of a run that goes to its end
pub to_the_end : (ws : List ℕ) (i : ℕ) → take (length ws - i) (drop i ws) ≡ drop i ws
to_the_end ws i = ap (λ (n : ℕ). take n (drop i ws)) (sym (length-drop i ws)) ∙ take-length (drop i ws)

pub words_length : (bs : List ℕ) → length (words_of bs) ≡ length bs / 4
words_length [] = refl
words_length (a ∷ []) = refl
words_length (a ∷ b ∷ []) = refl
words_length (a ∷ b ∷ c ∷ []) = refl
words_length (a ∷ b ∷ c ∷ d ∷ bs) = omega (arith, words_length bs)

word_in : (bs : List ℕ) (n k : ℕ) → k < n → n ≤ length bs / 4 → word_of (get_or (first_chunks 4 n bs) k []) ≡ get_or (words_of bs) k 0
word_in bs zero k h r = absurd (omega arith)
word_in [] (suc n) k h r = absurd (omega arith)
word_in (a ∷ []) (suc n) k h r = absurd (omega arith)
word_in (a ∷ b ∷ []) (suc n) k h r = absurd (omega arith)
word_in (a ∷ b ∷ c ∷ []) (suc n) k h r = absurd (omega arith)
word_in (a ∷ b ∷ c ∷ d ∷ bs) (suc n) zero h r = refl
word_in (a ∷ b ∷ c ∷ d ∷ bs) (suc n) (suc k) h r = word_in bs n k (omega arith) (omega arith)

-- one word more at the start of a run
pub one_word : (o bs : List ℕ) (k : ℕ) {fs : List (List ℕ)} → fs ≡ first_chunks 4 (length bs / 4) bs → k < length bs / 4 → {w : ℕ} → w ≡ word_of (get_or fs k [])
    → set (sets o 0 (take k (words_of bs))) k w ≡ sets o 0 (take (suc k) (words_of bs))
one_word o bs k f h e =
    let q = e ∙ ap (λ (l : List (List ℕ)). word_of (get_or l k [])) f ∙ word_in bs (length bs / 4) k h (omega arith) in
    ap (set (sets o 0 (take k (words_of bs))) k) q ∙ ap (λ (i : ℕ). set (sets o 0 (take k (words_of bs))) i (get_or (words_of bs) k 0)) (sym (zero-add k))
    ∙ one_more o (words_of bs) 0 k (omega (arith, words_length bs))

pub all_words : (o bs : List ℕ) (n : ℕ) → n ≡ length bs / 4 → n ≤ length o → take n (sets o 0 (take n (words_of bs))) ≡ words_of bs
all_words o bs n e room =
    let vs = words_of bs in
    let m : n ≡ length vs = omega (arith, e, words_length bs) in
    let all : take n vs ≡ vs = ap (λ (k : ℕ). take k vs) m ∙ take-length vs in
    ap (λ (l : List ℕ). take n (sets o 0 l)) all ∙ ap (take n) (sets-eq vs o 0 (omega (arith, m, room))) ∙ take_at vs (drop (0 + length vs) o) n (sym m)

-- the words that were gathered are in the run
pub in_run : (ws bs : List ℕ) (r : ℕ) → r ≡ length bs / 4 → take r ws ≡ words_of bs → r ≤ length ws
in_run ws bs r e q = omega (arith, e, sym (length-take r ws) ∙ ap length q ∙ words_length bs)

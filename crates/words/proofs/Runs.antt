-- Runs of stores, one after the other. Assumes nothing.
use Rattle.std.proofs.Common.{◌≡◌, ℕ, suc, ◌+◌, ◌<◌, List, [], ◌∷◌, ◌++◌, length, get_or, take, set, sym, ap, ◌∙◌, add-zero, arith, length-take-le, take-suc}
use lib.Seq.{sets}

-- two lists stored one behind the other
pub sets_append : (a b l : List ℕ) (i : ℕ) → sets l i (a ++ b) ≡ sets (sets l i a) (i + length a) b
sets_append [] b l i = ap (λ (k : ℕ). sets l k b) (sym (add-zero i))
sets_append (x ∷ a) b l i =
    let e : suc i + length a ≡ i + suc (length a) = omega arith in
    sets_append a b (set l i x) (suc i) ∙ ap (λ (k : ℕ). sets (sets (set l i x) (suc i) a) k b) e

-- one more of a list, for a loop
pub one_more : (l w : List ℕ) (i k : ℕ) → k < length w → set (sets l i (take k w)) (i + k) (get_or w k 0) ≡ sets l i (take (suc k) w)
one_more l w i k h =
    let e : length (take k w) ≡ k = length-take-le k w (omega arith) in
    ap (λ (n : ℕ). set (sets l i (take k w)) (i + n) (get_or w k 0)) (sym e)
    ∙ sym (sets_append (take k w) (get_or w k 0 ∷ []) l i)
    ∙ ap (sets l i) (sym (take-suc w k 0 h))

-- What a retarget of a word already written says. Assumes nothing.
use Rattle.std.specs.Prelude.{cond, List, ℕ, ltb, ℤ, length, get_or, Result}
use Rattle.words.specs.Said.{Said, ok, no}
use Rattle.words.specs.Answer.{said_as}
use Rattle.displacements.specs.Forms.{form_of, clear_in}
use Rattle.displacements.specs.Answer.{disp_said}
use Rattle.disp_targets.specs.Target.{page_of, between}
use Rattle.words.specs.declared.Refusal.{Refusal}
use Rattle.words.specs.declared.Opc.{Opc}

-- the word that stands at a position of a run, or 8
abbrev pub word_at : List ℕ → ℕ → Said ℕ
word_at ws p = cond (ltb p (length ws)) (ok (get_or ws p 0)) (no 8)

-- what is known of such a word says it
abbrev pub standing_said : Result Opc Refusal → Said ℕ
standing_said = said_as (λ w. w.0)

-- the word with its field cleared at format n, which is the base of the new one
abbrev pub cleared : ℕ → Said ℕ → Said ℕ
cleared n (ok w) = ok (clear_in (form_of n) w)
cleared n (no k) = no k

-- 7 before it
abbrev pub base_in : ℕ → Said ℕ → Said ℕ
base_in n x = cond (ltb 5 n) (no 7) (cleared n x)

-- "clears the field, then the same tests": of the word there, with the distance d at format n
abbrev pub again_in : ℕ → ℤ → Said ℕ → Said (List ℕ)
again_in n d (ok w) = disp_said n (clear_in (form_of n) w) d
again_in n d (no k) = no k

-- order 7, 8, 11, 4, 5
unfoldable pub again_said : ℕ → Said ℕ → ℤ → Said (List ℕ)
again_said n x d = cond (ltb 5 n) (no 7) (again_in n d x)

-- from a target and the address of the instruction
abbrev pub again_to : ℕ → Said ℕ → ℕ → ℕ → Said (List ℕ)
again_to n x t a = again_said n x (between (page_of n t) (page_of n a))

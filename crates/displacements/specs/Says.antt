-- When each thing is said: what the definitions of Answer.antt are proved to mean, in both directions. Assumes nothing.
use Rattle.std.specs.Prelude.{◌≡◌, ℕ, ◌%◌, ◌<◌, ◌≤◌, List, [], ◌∷◌, ℤ, ◌≤ℤ◌, unsigned_abs}
use Rattle.words.specs.Said.{Said, ok, no}
use Rattle.forms.specs.Form.{Formed}
use Rattle.displacements.specs.Forms.{Form, form_of, field_in, put_in, step, least, greatest}
use Rattle.displacements.specs.Answer.{steps_of}

-- a format there is, and a base of its form
pub record Based (n b : ℕ) : Type 0 where
  pub at : n < 6
  pub form : Formed n b

-- no bit of the field is set
abbrev pub Free : Form → ℕ → Type 0
Free f b = field_in f b ≡ 0

abbrev pub OnStep : Form → ℤ → Type 0
OnStep f d = unsigned_abs d % step f ≡ 0

abbrev pub InRange : Form → ℤ → Type 0
InRange f d = (least f ≤ℤ d) × (d ≤ℤ greatest f)

-- of format n, base b and distance d
pub data Says (n b : ℕ) (d : ℤ) : Said (List ℕ) → Type 0 where
  unknown : 6 ≤ n → Says n b d (no 7)
  alien : n < 6 → (Formed n b → ⊥) → Says n b d (no 11)
  taken : Based n b → (Free (form_of n) b → ⊥) → Says n b d (no 6)
  off : Based n b → Free (form_of n) b → (OnStep (form_of n) d → ⊥) → Says n b d (no 4)
  far : Based n b → Free (form_of n) b → OnStep (form_of n) d → (InRange (form_of n) d → ⊥) → Says n b d (no 5)
  word : Based n b → Free (form_of n) b → OnStep (form_of n) d → InRange (form_of n) d → Says n b d (ok (put_in (form_of n) b (steps_of (form_of n) d) ∷ []))

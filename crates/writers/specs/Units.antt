-- What writing words into a run of any units says and leaves; Put.antt has it of words and of bytes. Assumes nothing.
use Rattle.std.specs.Prelude.{cond, List, ℕ, ◌+◌, ◌*◌, ◌/◌, leb, length}
use Rattle.std.specs.List.{flat_map}
use Rattle.std.proofs.lemmas.List.Edits.{sets}
use Rattle.words.specs.Said.{Said, ok, no}
use Rattle.words.specs.Place.{pos_of, on}
use Rattle.words.specs.declared.Place.{Place}
use Rattle.writers.specs.Put.{based}

-- all words at a place, each spelled by so many units, and the place after them; or a refusal, and the run as it was
unfoldable pub units_at : {A : Type 0} → ℕ → (ℕ → List A) → List A → Place → Said (List ℕ) → Said Place × List A
units_at size spell us at (ok vs) =
    cond (leb (pos_of at + length vs) (length us / size)) (ok (on at (length vs)), sets us (pos_of at * size) (flat_map spell vs)) (no 8, us)
units_at size spell us at (no n) = (no n, us)

-- if the base allows
unfoldable pub put_units : {A : Type 0} → ℕ → (ℕ → List A) → List A → Place → Said (List ℕ) → Said Place × List A
put_units size spell us at x = units_at size spell us at (based at x)

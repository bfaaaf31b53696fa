-- What was told block by block are the items of the whole input. Assumes nothing.
use Rattle.std.proofs.Common.{ℕ, true, false, List, [], ◌∷◌, ◌++◌, drop, append_assoc, drop-drop}
use Rattle.archive_pieces.specs.declared.Told.{Told}
use Rattle.archive_pieces.specs.Steps.{Carried}
use Rattle.archive_pieces.specs.Archive.{Pieces, tells, carries}
use Rattle.archives.specs.Printed.{Steps, start, tell, carry, Passed}

step_by_step : {ws : List ℕ} {at₀ : ℕ} {k₀ : Carried} {i at : ℕ} {k : Carried} {ts us : List Told} {ps : List (List ℕ)}
    → Steps ws at₀ k₀ false i at k ts → Pieces k at (drop i ws ∷ ps) us → Pieces k₀ at₀ (ws ∷ ps) (ts ++ us)
step_by_step start q = q
step_by_step {ws} {us = us} (tell {i} {n = n} {t = t} {ts = ts} s e) q =
    rw (append_assoc ts (t ∷ []) us) (step_by_step s (tells e (rw (← drop-drop n i ws) at q)))

all_steps : {ws : List ℕ} {at₀ : ℕ} {k₀ : Carried} {i at : ℕ} {k : Carried} {ts us : List Told} {ps : List (List ℕ)}
    → Steps ws at₀ k₀ true i at k ts → Pieces k at ps us → Pieces k₀ at₀ (ws ∷ ps) (ts ++ us)
all_steps (carry s e) q = step_by_step s (carries e q)

-- a block that was passed, and what is told of those behind it: `pieces_whole` of archive_pieces says that they are the whole's
pub passed_told : {ws : List ℕ} {at₀ at : ℕ} {k₀ k : Carried} {us : List Told} {ps : List (List ℕ)} (p : Passed ws at₀ k₀ at k)
    → Pieces k at ps us → Pieces k₀ at₀ (ws ∷ ps) (p.told ++ us)
passed_told p q = all_steps p.steps q

-- Each public entry's contract allows one answer, and one content of each run after it. Assumes nothing.
use mathlib.Core.List.{List}
use Prim.Native.Nat.{ℕ}
use Rattle.words.proofs.Answers.{said_all}
use Rattle.words.proofs.Contracts.{OneWrite, one_pair}
use Rattle.label_runs.specs.Flat.{Runs}
use Rattle.label_runs.proofs.use_flat.Reads as use_flat
use Rattle.label_runs.proofs.finish_flat.Reads as finish_flat

abbrev runs : List ℕ → List ℕ → List ℕ → Runs
runs ms ps fs = (ms, (ps, fs))

pub use_flat_determined : OneWrite use_flat.Post (λ k x. runs x.0.now x.1.0.now x.1.1.0.now)
use_flat_determined k a r s x y p q = let e = one_pair p q in (said_all r s e.0, e.1)

pub finish_flat_determined : OneWrite finish_flat.Post (λ k x. x.1.1.1.1.1.0.now)
finish_flat_determined k a r s x y p q = let e = one_pair p q in (said_all r s e.0, e.1)

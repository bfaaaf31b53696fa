-- The words that `moves::rest` has stored so far. Assumes nothing.
use Rattle.std.proofs.Common.{◌≤◌}
use Rattle.moves.specs.Moves.{rest}
use Rattle.moves.proofs.Lists.{among, Holds}
use Rattle.moves.proofs.rest.Given as goal

abbrev pub invariant-loop-k : goal.invariant-loop-k
invariant-loop-k l = record { few : l.count ≤ l.k; holds : Holds (rest (among l.f l.fn.imm l.k) l.rd.number) l.count l.w }

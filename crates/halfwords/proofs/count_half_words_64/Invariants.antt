-- The pass of `halfwords::count_half_words_64` over the four halfwords. Assumes nothing.
use Rattle.std.proofs.Common.{◌≡◌, ◌≤◌}
use Rattle.halfwords.proofs.Pass.{among, above}
use Rattle.halfwords.proofs.count_half_words_64.Given as goal

abbrev pub invariant-loop : goal.invariant-loop
invariant-loop l = record {
  few_zeros : l.zeros ≤ l.counter;
  few_ones : l.ones ≤ l.counter;
  left : l.left ≡ above l.counter l.fn.imm;
  zeros : l.zeros ≡ among 0 l.counter l.fn.imm;
  ones : l.ones ≡ among 0xFFFF l.counter l.fn.imm;
}

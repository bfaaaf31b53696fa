-- The array that is read into keeps its length.
use Rattle.std.proofs.Common.{◌≡◌, length}
use Rattle.streams.specs.Streams.{OnlyTakes}
use Rattle.requests.specs.Streams.{OnlyAdds}
use Rattle.requests.proofs.answer_all.Given as goal

abbrev pub invariant-loop : goal.invariant-loop
invariant-loop g l =
    record {
      whole : 72 ≡ length l.bytes;
      front : OnlyTakes (g.R.Read.remaining l.initial.input) (g.R.Read.remaining l.input);
      behind : OnlyAdds (g.W.Write.contents l.initial.output) (g.W.Write.contents l.output);
    }

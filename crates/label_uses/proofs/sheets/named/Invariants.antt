-- The scan of `label_uses::sheets::named`: none of the uses that it has passed names the word. Assumes nothing.
use Rattle.std.proofs.Common.{◌≡◌, drop, take, length, min}
use Rattle.labels.specs.Sheet.{names}
use Rattle.label_uses.proofs.sheets.named.Given as goal

abbrev pub invariant-loop-i : goal.invariant-loop-i
invariant-loop-i g l =
    let us = g.S.Sheet.uses l.sheet in
    (l.i-end ≡ min l.n (length us)) × (names l.k (drop l.i (take l.i-end us)) ≡ names l.k (take l.n us))

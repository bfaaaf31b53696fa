-- The scan of `label_uses::sheets::named` looks at the uses that there are. Assumes nothing.
use Rattle.std.proofs.Common.{◌≡◌, ◌∙◌, ℕ, ap, sym, take, length, min}
use Rattle.labels.specs.Sheet.{names}
use Rattle.labels.proofs.Coded.{take_least}
use Rattle.label_uses.proofs.sheets.named.Goals as goal

pub loop-i-init : goal.loop-i-init
loop-i-init g c =
    let us = g.S.Sheet.uses c.args.sheet.now in
    let e : c.least-i-end.result ≡ min c.args.n (length us) = c.least-i-end.ensures ∙ ap (min c.args.n) c.room.ensures in
    (e, ap (λ (k : ℕ). names c.args.k (take k us)) e ∙ ap (names c.args.k) (sym (take_least c.args.n us)))

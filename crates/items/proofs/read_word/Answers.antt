-- Goals of `items::read_word`. Assumes nothing.
use Rattle.std.proofs.Common.{sym, ◌∙◌}
use Rattle.items.proofs.Cases.{itemed, itemed_logical, itemed_displaced, itemed_unknown}
use Rattle.items.proofs.read_word.Goals as goal

pub returns-in-Some : goal.returns-in-Some
returns-in-Some c = itemed _ c.in-Some.ensures

pub returns-in-Some-logical : goal.returns-in-Some-logical
returns-in-Some-logical c = itemed_logical _ (sym c.in_default.is ∙ c.read_wide.ensures) c.in-Some-logical.ensures

pub returns-in-Some-displaced : goal.returns-in-Some-displaced
returns-in-Some-displaced c =
    itemed_displaced _ (sym c.in_default.is ∙ c.read_wide.ensures) (sym c.in_default-logical.is ∙ c.logical.ensures) c.in-Some-displaced.ensures

pub returns : goal.returns
returns c =
    itemed_unknown _ (sym c.in_default.is ∙ c.read_wide.ensures) (sym c.in_default-logical.is ∙ c.logical.ensures) (sym c.in_default-displaced.is ∙ c.displaced.ensures)

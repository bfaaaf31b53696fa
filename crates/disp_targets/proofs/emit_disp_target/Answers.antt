-- What is left of `disp_targets::emit_disp_target`: the word by value, put at the place, at the place's address. Assumes nothing.
use Rattle.std.proofs.Common.{ap, ◌∙◌}
use Rattle.words.specs.Listed.{packed}
use Rattle.words.specs.Place.{address_of}
use Rattle.words.specs.declared.Address.{Address}
use Rattle.writers.specs.Put.{put_of}
use Rattle.writers.proofs.Writes.{put_no}
use Rattle.disp_targets.specs.Target.{target_said, low_of, carrying, put_to}
use Rattle.disp_targets.proofs.Targets.{put_target_lem}
use Rattle.disp_targets.proofs.emit_disp_target.Goals as goal

pub returns : goal.returns
returns c =
    let a = c.args in
    let put = put_of a.words.now a.at in
    c.put_target.ensures
    ∙ ap (put_to put) c.disp_target_word.ensures
    ∙ ap (λ (at : Address). put_to put (carrying (low_of a.format a.target.0) (packed (target_said a.format a.base.0 a.target.0 at.0)))) c.address_of.ensures
    ∙ put_target_lem put (put_no a.words.now a.at) a.format a.base.0 a.target.0 (address_of a.at)

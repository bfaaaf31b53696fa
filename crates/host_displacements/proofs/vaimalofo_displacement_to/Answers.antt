-- What `host_displacements::vaimalofo_displacement_to` puts is the word that is asked for, at the address of its place. Assumes nothing.
use Rattle.std.proofs.Common.{ap, ◌∙◌}
use Rattle.words.specs.Listed.{packed}
use Rattle.words.specs.Place.{place_at, address_of}
use Rattle.words.specs.declared.Address.{Address}
use Rattle.words.specs.declared.Place.{Place}
use Rattle.disp_targets.specs.Target.{target_said, low_of, carrying}
use Rattle.host.specs.Number.{host_target}
use Rattle.host.proofs.Laws.{landed}
use Rattle.host_displacements.proofs.vaimalofo_displacement_to.Goals as goal

pub returns : goal.returns
returns c =
    let a = c.args in
    let at = place_at a.base_address a.position in
    c.put_target.ensures
    ∙ ap (host_target a.bytes.now at) c.disp_target_word-word.ensures
    ∙ ap (λ (k : Address). host_target a.bytes.now at (carrying (low_of a.format a.target) (packed (target_said a.format a.base a.target k.0))))
    (c.address_of-address.ensures ∙ ap (λ (k : Place). record { 0 = address_of k }) c.place.ensures)
    ∙ landed a.bytes.now at a.format a.base a.target (address_of at)

-- What `host_retargets::vaimalofo_retarget_to` puts is the word that is asked for, at the address of its place. Assumes nothing.
use Rattle.std.proofs.Common.{ℕ, ap, ◌∙◌}
use Rattle.words.specs.Said.{Said}
use Rattle.words.specs.Listed.{packed}
use Rattle.words.specs.Place.{place_at, address_of}
use Rattle.words.specs.declared.Address.{Address}
use Rattle.words.specs.declared.Place.{Place}
use Rattle.writers.specs.Put.{words_in, put_bytes_of}
use Rattle.writers.proofs.Writes.{bytes_no}
use Rattle.disp_targets.specs.Target.{page_of, between, low_of, carrying}
use Rattle.disp_targets.proofs.Targets.{put_to_lem}
use Rattle.retargets.specs.Retarget.{word_at, standing_said, again_to}
use Rattle.retargets.proofs.Answers.{again_short}
use Rattle.host.specs.Number.{host_to_of, host_target}
use Rattle.host_retargets.proofs.vaimalofo_retarget_to.Goals as goal

pub returns : goal.returns
returns c =
    let a = c.args in
    let n = a.format in
    let t = a.target in
    let l = a.bytes.now in
    let at = place_at a.base_address a.position in
    let x = word_at (words_in l) a.position in
    c.put_target.ensures
    ∙ ap (host_target l at) c.retarget_target_word-word.ensures
    ∙ ap (λ (k : Address). host_target l at (carrying (low_of n t) (packed (again_to n (standing_said c.found-there.result) t k.0))))
    (c.address_of-address.ensures ∙ ap (λ (k : Place). record { 0 = address_of k }) c.place.ensures)
    ∙ ap (λ (y : Said ℕ). host_target l at (carrying (low_of n t) (packed (again_to n y t (address_of at))))) c.found-there.ensures
    ∙ ap (host_to_of at) (put_to_lem (put_bytes_of l at) (bytes_no l at) (low_of n t) (again_to n x t (address_of at)) (again_short n x (between (page_of n t) (page_of n (address_of at)))))

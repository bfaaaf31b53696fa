-- Each entry's contract allows one answer, and one run of bytes after it. Assumes nothing.
use mathlib.Core.Path.{refl, sym, ap, ◌∙◌}
use Prim.Native.Nat.{ℕ}
use Rattle.words.specs.Said.{Said}
use Rattle.words.specs.Place.{place_at}
use Rattle.words.proofs.Contracts.{OneAnswer, OneWrite, one_pair}
use Rattle.logical.specs.declared.LogicalImm.{LogicalImm}
use Rattle.logical.proofs.Laws.{one_from}
use Rattle.logical_decoder.proofs.Laws.{decoded_one, normal_one}
use Rattle.host.specs.Number.{told, host_put}
use Rattle.host_logical.specs.Fields.{spelled, words_of_mask}
use Rattle.host_logical.proofs.vaimalofo_logical_fields.Reads as logical_fields
use Rattle.host_logical.proofs.vaimalofo_normalise_logical.Reads as normalise_logical
use Rattle.host_logical.proofs.vaimalofo_decode_logical.Reads as decode_logical
use Rattle.host_logical.proofs.vaimalofo_logical_word.Reads as logical_word

pub logical_fields_determined : OneAnswer logical_fields.Post
logical_fields_determined k a r s x y p q = one_from _ p q

pub normalise_logical_determined : OneAnswer normalise_logical.Post
normalise_logical_determined k a r s x y p q = p.2 ∙ ap (λ (z : Said LogicalImm). told (spelled z)) (normal_one _ _ _ _ p.0 q.0 p.1 q.1) ∙ sym q.2

pub decode_logical_determined : OneWrite decode_logical.Post (λ k x. x.0.now)
decode_logical_determined k a r s x y p q =
    one_pair (p.2 ∙ ap (λ (z : Said ℕ). host_put a.0.now (place_at 0 0) (words_of_mask z)) (decoded_one _ _ _ _ p.0 q.0 p.1 q.1) ∙ sym q.2) refl

pub logical_word_determined : OneWrite logical_word.Post (λ k x. x.0.now)
logical_word_determined k a r s x y p q = one_pair (one_from _ p q) refl

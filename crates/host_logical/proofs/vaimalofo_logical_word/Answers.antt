-- The answer of `host_logical::vaimalofo_logical_word`. Assumes nothing.
use Rattle.logical_words.proofs.Word.{word_listed}
use Rattle.words.specs.Place.{place_at}
use Rattle.host.proofs.Laws.{asked}
use Rattle.host_logical.proofs.vaimalofo_logical_word.Goals as goal

pub returns : goal.returns
returns c =
    let a = c.args in
    let w = c.logical_word.ensures in (
      w.0,
      w.1,
      asked a.bytes.now (place_at a.base_address a.position) c.put.ensures (word_listed a.operation a.width a.rn a.rd w.0 w.2),
    )

-- The answer of `logical_words::emit_logical_imm`. Assumes nothing.
use Rattle.logical_words.proofs.Word.{word_listed}
use Rattle.logical_words.proofs.emit_logical_imm.Goals as goal

pub returns : goal.returns
returns c =
    let a = c.args in
    let w = c.logical_word.ensures in
    (w.0, w.1, rw (← word_listed a.operation a.width a.rn a.rd w.0 w.2) c.put.ensures)

-- Each contract allows one place, and one run after it. Assumes nothing.
use Rattle.words.proofs.Contracts.{OneWrite, one_pair}
use Rattle.lines.proofs.line.Reads as line
use Rattle.lines.proofs.text.Reads as text
use Rattle.lines.proofs.number.Reads as number
use Rattle.lines.proofs.word.Reads as word

pub line_determined : OneWrite line.Post (λ k x. x.1.0.now)
line_determined k a r s x y p q = one_pair p q

pub text_determined : OneWrite text.Post (λ k x. x.0.now)
text_determined k a r s x y p q = one_pair p q

pub number_determined : OneWrite number.Post (λ k x. x.0.now)
number_determined k a r s x y p q = one_pair p q

pub word_determined : OneWrite word.Post (λ k x. x.0.now)
word_determined k a r s x y p q = one_pair p q

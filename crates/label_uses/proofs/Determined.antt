-- Each public entry's contract allows one answer. Assumes nothing.
use mir.Syntax.{Dict}
use denote.RattleType.{RattleType}
use denote.Param.Laws.{Laws}
use Rattle.words.proofs.Answers.{said_all}
use Rattle.words.proofs.Contracts.{OneAnswer, OneWrite, one_answer, one_pair}
use Rattle.labels.proofs.Tests.{code_all}
use Rattle.label_uses.specs.declared.sheets.Sheet.{Ghosts}
use Rattle.label_uses.proofs.may_use.Reads as may_use
use Rattle.label_uses.proofs.use_number.Reads as use_number
use Rattle.label_uses.proofs.fixed_word.Reads as fixed_word
use Rattle.label_uses.proofs.sheets.named.Reads as named
use Rattle.label_uses.proofs.sheets.finish.Reads as finish

pub may_use_determined : OneAnswer may_use.Post
may_use_determined k a r s x y p q = code_all r s (one_answer p q)

pub use_number_determined : OneAnswer use_number.Post
use_number_determined k a r s x y p q = code_all r s (one_answer p q)

pub fixed_word_determined : OneAnswer fixed_word.Post
fixed_word_determined k a r s x y p q = one_answer p q

-- of any sheet
module _ (S : RattleType) (laws : Laws S) (sheet : Ghosts S.Denot) (dict : Dict) where
  pub named_determined : OneAnswer (named.Post S laws sheet dict)
  named_determined k a r s x y p q = one_answer p q

  pub finish_determined : OneWrite (finish.Post S laws sheet dict) (λ k x. x.1.1.1.0.now)
  finish_determined k a r s x y p q = let e = one_pair p q in (said_all r s e.0, e.1)

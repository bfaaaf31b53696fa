-- Each public entry's contract allows one answer. Assumes nothing.
use Rattle.words.proofs.Answers.{said_all}
use Rattle.words.proofs.Contracts.{OneAnswer, one_answer}
use Rattle.forms.proofs.Formats.{numbers_one}
use Rattle.forms.proofs.FormatTryFromU32.try_from.Reads as try_from
use Rattle.forms.proofs.Format.is_form_of.Reads as is_form_of
use Rattle.forms.proofs.of_form.Reads as of_form
use Rattle.forms.proofs.has_form.Reads as has_form

pub try_from_determined : OneAnswer try_from.Post
try_from_determined k a r s x y p q = numbers_one a.0 r s p q

pub is_form_of_determined : OneAnswer is_form_of.Post
is_form_of_determined k a r s x y p q = one_answer p q

pub of_form_determined : OneAnswer of_form.Post
of_form_determined k a r s x y p q = one_answer p q

pub has_form_determined : OneAnswer has_form.Post
has_form_determined k a r s x y p q = said_all r s (one_answer p q)

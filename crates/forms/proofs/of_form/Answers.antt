-- What is left of `forms::of_form`: no word is of the form of a format that there is not. Assumes nothing.
use Rattle.std.proofs.Common.{◌≡◌, ℕ, Bool, true, false, cond, ltb, sym, refl, ◌∙◌, ltb-true}
use Rattle.std.specs.Prelude.{Result, Ok, Err}
use Rattle.std.specs.Result.{result_unwrap_or}
use Rattle.words.specs.Said.{ok, no}
use Rattle.words.specs.Answer.{said}
use Rattle.words.specs.declared.Refusal.{Refusal}
use Rattle.words.proofs.Answers.{not_both}
use Rattle.forms.specs.Form.{is_of_form, form_said}
use Rattle.forms.proofs.Instructions.{no_format}
use Rattle.forms.proofs.of_form.Goals as goal

yes_or_no : (n w : ℕ) (x : Result Bool Refusal) → said x ≡ form_said n w → result_unwrap_or x false ≡ is_of_form n w
yes_or_no n w x = go (ltb 5 n) refl x
  where
    go : (u : Bool) → ltb 5 n ≡ u → (x : Result Bool Refusal) → said x ≡ cond u (no 7) (ok (is_of_form n w)) → result_unwrap_or x false ≡ is_of_form n w
    go true t (Ok b) e = absurd (not_both e)
    go true t (Err r) e = sym (no_format w n (ltb-true 5 n t))
    go false t (Ok b) e = cc
    go false t (Err r) e = absurd (not_both (sym e))

pub returns : goal.returns
returns c = let a = c.args in c.unwrap_or.ensures ∙ yes_or_no a.format a.w.0 c.has_form.result c.has_form.ensures

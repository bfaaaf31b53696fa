-- What is left of `disp_targets::put_target`: nothing that is refused is written. Assumes nothing.
use Rattle.std.proofs.Common.{◌≡◌, ℕ, List, sym, ap, ◌∙◌}
use Rattle.std.specs.Prelude.{Result, Ok, Err}
use Rattle.std.proofs.lemmas.Result.{MatchResult-at_err}
use Rattle.words.specs.Said.{Said, no}
use Rattle.words.specs.Answer.{number_of, said}
use Rattle.words.specs.Listed.{listed}
use Rattle.words.specs.declared.Place.{Place}
use Rattle.words.specs.declared.Refusal.{Refusal}
use Rattle.words.specs.declared.Words.{Words}
use Rattle.words.proofs.Answers.{not_both}
use Rattle.writers.specs.Put.{put_of}
use Rattle.writers.proofs.Writes.{put_no}
use Rattle.disp_targets.proofs.put_target.Goals as goal

not_written : (ws ws' : List ℕ) (at : Place) (x : Result Words Refusal) (r : Refusal) (y : Result Place Refusal) (p : Place) → x ≡ Err r → y ≡ Ok p
    → ◌≡◌ {A = Said Place × List ℕ} (said y, ws') (put_of ws at (listed (said x))) → ⊥
not_written ws ws' at x r y p ex ey e =
    let same : said y ≡ (put_of ws at (listed (said x))).0 = ap (λ (k : Said Place × List ℕ). k.0) e in
    let given : (put_of ws at (listed (said x))).0 ≡ (put_of ws at (no (number_of r))).0 = ap (λ (k : Result Words Refusal). (put_of ws at (listed (said k))).0) ex in
    let refusal = put_no ws at (number_of r) in
    not_both (sym (ap said ey) ∙ same ∙ given ∙ refusal.1)

pub returns-in_err-low : goal.returns-in_err-low
returns-in_err-low c =
    absurd (not_written c.args.words.now c.put.new.words c.args.at c.map.result c.in_err-low.field-0.0 c.put.result c.in_ok-past.past
    (MatchResult-at_err _ _ c.in_err-low.field-0.0 c.in_err-low.was c.map.ensures.cases) c.in_ok-past.was c.put.ensures)

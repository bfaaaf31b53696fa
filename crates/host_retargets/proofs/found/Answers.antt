-- What is left of `host_retargets::found`: the bytes spell the word that stands there, or none stands there. Assumes nothing.
use Rattle.std.proofs.Common.{◌≡◌, ℕ, ◌/◌, ◌<◌, List, Some, None, Err, length, get_or, sym, ap, ◌∙◌, arith}
use Rattle.std.specs.Option.{ok_or, MatchOption}
use Rattle.std.specs.Result.{result_ok}
use Rattle.std.specs.declared.option.Option.{Option}
use Rattle.std.proofs.lemmas.Result.{err_from_is_err_and}
use Rattle.words.specs.Said.{ok}
use Rattle.words.specs.declared.Refusal.{Refusal}
use Rattle.words.specs.declared.Refusal.TheVariants.{NoRoom}
use Rattle.writers.specs.Put.{words_in}
use Rattle.retargets.specs.Retarget.{standing_said}
use Rattle.retargets.proofs.Answers.{word_there, word_missing}
use Rattle.host_retargets.proofs.Words.{words_count, four, word_bytes}
use Rattle.host_retargets.proofs.found.Goals as goal

missed : {X : Type 0} (P : X → Type 0) (Q : Type 0) (o : Option X) (r e : Refusal) → ok_or o r ≡ Err e → MatchOption o Q P → (e ≡ r) × Q
missed P Q None r e h m = (cc, m)
missed P Q (Some x) r e h m = let z : ◌≡◌ {A = ℕ} 0 1 = cc in absurd (omega arith)

pub returns : goal.returns
returns c =
    let bs = c.args.bytes.now in
    let p = c.args.position in
    let word = c.in_ok-word.word in
    let there = c.ok_or.ensures.ok_part ∙ ap result_ok c.in_ok-word.was in
    let at = rw there at c.get.ensures.lookup in
    let within : p < length bs / 4 = omega (arith, c.as_chunks.ensures.front_len, at.3.0) in
    let spelled = at.1 ∙ ap (λ (l : List (List ℕ)). get_or l p word.now) c.as_chunks.ensures.front in
    ap ok (c.from_le_bytes.ensures ∙ ap four spelled ∙ word_bytes bs word.now (length bs / 4) p within (omega arith))
    ∙ sym (word_there (words_in bs) p (omega (arith, words_count bs, within)))

pub returns-in_err-word : goal.returns-in_err-word
returns-in_err-word c =
    let bs = c.args.bytes.now in
    let q = err_from_is_err_and c.from_residual.result c.from_residual.ensures.1 in
    let m = missed _ _ c.get.result NoRoom c.in_err-word.field-0.0 (sym c.ok_or.ensures.value ∙ c.in_err-word.was) c.get.ensures.lookup.3 in
    ap standing_said (q.1 ∙ ap Err (q.2 ∙ m.0))
    ∙ sym (word_missing (words_in bs) c.args.position (omega (arith, words_count bs, c.as_chunks.ensures.front_len, m.1)))

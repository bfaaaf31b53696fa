-- The contract of the public entry allows one answer. Assumes nothing.
use mathlib.Core.Path.{◌≡◌}
use Rattle.words.specs.Listed.{packed}
use Rattle.words.proofs.Answers.{said_all}
use Rattle.words.proofs.Contracts.{OneAnswer, one_answer}
use Rattle.logical.proofs.Laws.{one_from}
use Rattle.items.specs.declared.Item.{Item}
use Rattle.items.specs.declared.Item.TheVariants as item
use Rattle.item_words.specs.Again.{ForItem}
use Rattle.words.specs.Answer.{said}
use Rattle.std.specs.Prelude.{Result}
use Rattle.words.specs.declared.Refusal.{Refusal}
use Rattle.words.specs.declared.Words.{Words}
use Rattle.item_words.proofs.write_item.Reads as write_item

same : (i : Item) (r s : Result Words Refusal) → ForItem i (λ x. said r ≡ packed x) → ForItem i (λ x. said s ≡ packed x) → r ≡ s
same (item.Wide m) r s p q = said_all r s (one_answer p q)
same (item.Logical l) r s p q = said_all r s (one_from _ p q)
same (item.Displaced d) r s p q = said_all r s (one_answer p q)
same (item.Unknown w) r s p q = said_all r s (one_answer p q)

pub write_item_determined : OneAnswer write_item.Post
write_item_determined k a r s x y p q = same a.0 r s p q

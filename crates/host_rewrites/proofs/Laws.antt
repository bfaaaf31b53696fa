-- A word written again is one word. Assumes nothing.
use mathlib.Core.Path.{◌≡◌, refl, sym, ap, subst, ◌∙◌}
use mathlib.Core.List.{[], ◌∷◌}
use Prim.Native.Nat.{ℕ, ◌*◌, ◌^◌, ◌<◌}
use native.Mathlib.Nat.{mod-le}
use native.Mathlib.Omega.{arith}
use Rattle.arm.specs.Bits.{bits}
use Rattle.arm.specs.BitMasks.{esize}
use Rattle.words.specs.Said.{ok}
use Rattle.words.specs.Listed.{words_of, packed}
use Rattle.words.specs.declared.Refusal.{Refusal}
use Rattle.words.specs.declared.Words.{Words}
use Rattle.words.proofs.Answers.{not_both}
use Rattle.items.specs.Items.{item_of}
use Rattle.items.specs.declared.Item.{Item}
use Rattle.items.proofs.Cases.{by_item}
use Rattle.item_words.specs.Again.{ForItem, again_of, rewritten}
use Rattle.item_words.proofs.Again.{item_again}
use Rattle.words.specs.Answer.{said}
use Rattle.std.specs.Prelude.{Err, Ok, Result, MatchResult}

-- it is a word
pub rewritten_fits : (w : ℕ) → w < 2 ^ 32 → rewritten w < 2 ^ 32
unfolding rewritten
rewritten_fits w h =
    by_item w (λ i. again_of w i < 2 ^ 32)
    (λ t. omega (arith, mod-le (bits 21 16 w) (esize (bits 22 22 w) (bits 15 10 w)))) (λ f. h) (λ f. h) (λ t. h)

module _ (w : ℕ) (m : Result Words Refusal) (l : w < 2 ^ 32) {i : Item} (q : i ≡ item_of w) (p : ForItem i (λ x. said m ≡ packed x)) where
  one_word : said m ≡ packed (ok (rewritten w ∷ []))
  one_word = item_again w l (λ x. said m ≡ packed x) (subst (λ (k : Item). ForItem k (λ x. said m ≡ packed x)) q p)

  pub written_again : {f : Words} → m ≡ Ok f → f.a ≡ rewritten w
  written_again {f} e =
      let same : ok f ≡ packed (ok (rewritten w ∷ [])) = ap said (sym e) ∙ one_word in
      let words : f ≡ words_of (rewritten w ∷ []) = cc in
      ap (λ (g : Words). g.a) words

  pub never_refused : {r : Refusal} → m ≡ Err r → ⊥
  never_refused e = not_both (sym one_word ∙ ap said e)

-- what is made of the word, which there is
pub of_word : (w : ℕ) (m : Result Words Refusal) → w < 2 ^ 32 → {i : Item} → i ≡ item_of w → ForItem i (λ x. said m ≡ packed x)
    → {P : Words → Type 0} (Q : Refusal → Type 0) → MatchResult m P Q → {n : ℕ} → ((f : Words) → P f → n ≡ f.a * 256) → n ≡ rewritten w * 256
of_word w (Ok f) l q p Q h e = e f h ∙ ap (λ (k : ℕ). k * 256) (written_again w (Ok f) l q p refl)
of_word w (Err r) l q p Q h e = absurd (never_refused w (Err r) l q p refl)

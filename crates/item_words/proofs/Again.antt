-- Every word, written again from its own fields, is the same word, except logical immediates that are not normal; and their normal spelling means the
-- same. Assumes nothing.
use mathlib.Core.Path.{◌≡◌, refl, sym, ap, subst, ◌∙◌}
use mathlib.Core.Bool.{true}
use mathlib.Core.List.{List, [], ◌∷◌}
use Prim.Native.Nat.{ℕ, zero, suc, ◌+◌, ◌-◌, ◌*◌, ◌/◌, ◌%◌, ◌^◌, ◌<◌}
use native.Mathlib.Nat.{mod-eq_of_lt}
use native.Mathlib.Omega.{arith}
use borrow.Author.Tests.{ltb-true, lt-ltb}
use Rattle.arm.specs.Bits.{bits}
use Rattle.arm.specs.BitMasks.{esize, wmask}
use Rattle.arm.specs.LogicalImmediate.{decode_logical}
use Rattle.arm.specs.MoveWide.{datasize}
use Rattle.arm.proofs.Laws.{turn_mask}
use Rattle.arm.proofs.Logical.{spelled, decoded}
use Rattle.words.specs.Said.{Said, ok}
use Rattle.logical.specs.Answer.{fields, Encoded}
use Rattle.logical.proofs.Laws.{encoded_one}
use Rattle.logical_decoder.proofs.Laws.{again}
use Rattle.logical_words.specs.Word.{word_of}
use Rattle.logical_words.proofs.Word.{word_filled, word_spelled}
use Rattle.wide_moves.proofs.Again.{cut, top, wide_again}
use Rattle.items.specs.declared.Item.{Item}
use Rattle.items.specs.declared.Item.TheVariants as item
use Rattle.items.specs.Items.{form_number, item_of}
use Rattle.items.proofs.Forms.{form_has}
use Rattle.items.proofs.Logicals.{is_width, operation_is, IsLogical, logical_at}
use Rattle.items.proofs.Cases.{by_item}
use Rattle.items.proofs.Readings.{logical_read}
use Rattle.item_words.specs.Again.{ForItem, turned, again_of, rewritten}
use Rattle.item_words.proofs.Displaced.{displaced_again}

-- ---- a logical immediate, R reduced

module _ (w : ℕ) (l : w < 2 ^ 32) (t : IsLogical w) where
  abbrev sf : ℕ
  sf = bits 31 31 w

  abbrev n : ℕ
  n = bits 22 22 w

  abbrev s : ℕ
  s = bits 15 10 w

  abbrev q : ℕ
  q = bits 21 16 w % esize n s

  sum : (w a b c d e f sf rd rn s r n opc q : ℕ) → w ≡ a * 32 + rd → a ≡ b * 2 ^ 5 + rn → b ≡ c * 2 ^ 6 + s → c ≡ d * 2 ^ 6 + r → d ≡ e * 2 ^ 1 + n → e ≡ f * 2 ^ 6 + 0b100100
      → f ≡ sf * 2 ^ 2 + opc → sf * 2 ^ 31 + opc * 2 ^ 29 + 0b100100 * 2 ^ 23 + n * 2 ^ 22 + q * 2 ^ 16 + s * 2 ^ 10 + rn * 2 ^ 5 + rd ≡ w - r * 2 ^ 16 + q * 2 ^ 16
  sum w a b c d e f sf rd rn s r n opc q h1 h2 h3 h4 h5 h6 h7 = omega arith

  -- the word with another R is the word of these fields
  spelled_turned : (k : ℕ) → spelled sf (bits 30 29 w) n k s (bits 9 5 w) (bits 4 0 w) ≡ turned w k
  spelled_turned k =
      sum w (w / 2 ^ 5) (w / 2 ^ 10) (w / 2 ^ 16) (w / 2 ^ 22) (w / 2 ^ 23) (w / 2 ^ 29) sf (bits 4 0 w) (bits 9 5 w) s (bits 21 16 w) n (bits 30 29 w) k
      (omega arith) (cut w 5 5) (cut w 10 6) (cut w 16 6) (cut w 22 1) (cut w 23 6 ∙ ap (λ (k : ℕ). w / 2 ^ 29 * 2 ^ 6 + k) t.group)
      (cut w 29 2 ∙ ap (λ (k : ℕ). k * 2 ^ 2 + bits 30 29 w) (top w l))

  -- the encoder's answer to the value
  fields_again : Encoded (datasize sf) (wmask (datasize sf) n s (bits 21 16 w)) (ok (fields n s q))
  fields_again = again (datasize sf) n s (bits 21 16 w) _ (is_width sf (omega arith), record { legal = t.legal; mask = refl })

  sf_is : datasize sf / 64 ≡ sf
  sf_is = at sf (omega arith)
    where
      at : (k : ℕ) → k < 2 → datasize k / 64 ≡ k
      at zero h = refl
      at (suc zero) h = refl
      at (suc (suc k)) h = absurd (omega arith)

  word_again : word_of (bits 30 29 w) (datasize sf) (bits 9 5 w) (bits 4 0 w) (ok (fields n s q)) ≡ ok (turned w q ∷ [])
  word_again =
      word_filled (bits 30 29 w) (datasize sf) (bits 9 5 w) (bits 4 0 w) (ok (fields n s q)) (omega arith) (is_width sf (omega arith)) (omega arith) (omega arith)
      ∙ ap (λ (k : ℕ). ok (k ∷ []))
      (word_spelled (bits 30 29 w) (datasize sf) (bits 9 5 w) (bits 4 0 w) (fields n s q) (omega arith) (is_width sf (omega arith))
      ∙ ap (λ (k : ℕ). spelled k (bits 30 29 w) n q s (bits 9 5 w) (bits 4 0 w)) sf_is ∙ spelled_turned q)

  pub logical_again : (P : Said (List ℕ) → Type 0) → ForItem (item.Logical (logical_at w)) P → P (ok (turned w q ∷ []))
  logical_again P (a, e, p) =
      let is : a ≡ ok (fields n s q) = encoded_one _ _ a (ok (fields n s q)) e fields_again in
      subst P (ap (word_of (bits 30 29 w) (datasize sf) (bits 9 5 w) (bits 4 0 w)) is ∙ word_again) p

  -- "and whose normal spelling means the same": it is read as the same operation, width, registers, value, N, S and length, R reduced, and normal
  pub normal_spelling :
      item_of (turned w q)
      ≡ item.Logical (record {
        operation = bits 30 29 w;
        width = datasize sf;
        rn = bits 9 5 w;
        rd = bits 4 0 w;
        value = wmask (datasize sf) n s (bits 21 16 w);
        n = n;
        s = s;
        r = q;
        length = esize n s;
        normal = true;
      })
  normal_spelling =
      let d = fields_again in
      let m = decoded sf (bits 30 29 w) n q s (bits 9 5 w) (bits 4 0 w) (omega arith) (omega arith) d.1.legal (omega arith) (omega arith) in
      logical_read (turned w q) _ (ap decode_logical (sym (spelled_turned q)) ∙ m)
      ∙ rw (operation_is (bits 30 29 w) (omega arith), same, lt-ltb q (esize n s) d.2)
    where
      same : wmask (datasize sf) n s q ≡ wmask (datasize sf) n s (bits 21 16 w)
      same = turn_mask (datasize sf) n s (bits 21 16 w)

-- ---- every word

-- what is not reported as not normal
abbrev pub Ordinary : Item → Type 0
Ordinary (item.Wide m) = Unit
Ordinary (item.Logical l) = l.normal ≡ true
Ordinary (item.Displaced d) = Unit
Ordinary (item.Unknown w) = Unit

module _ (w : ℕ) (l : w < 2 ^ 32) where
  -- what is said of any word's item is one word, with R reduced by the element length where it is a logical immediate
  pub item_again : (P : Said (List ℕ) → Type 0) → ForItem (item_of w) P → P (ok (rewritten w ∷ []))
  unfolding rewritten
  item_again P =
      by_item w (λ i. ForItem i P → P (ok (again_of w i ∷ [])))
      (λ t. logical_again w l t P)
      (λ h. subst P (displaced_again w (form_number w) h (form_has w h)))
      (λ h p. p)
      (λ p. subst P (wide_again w l p))

  -- "Every word accepted, written again from its own fields, is the same word, except logical fields with a large R"
  pub same_word : Ordinary (item_of w) → rewritten w ≡ w
  unfolding rewritten
  same_word =
      by_item w (λ i. Ordinary i → again_of w i ≡ w)
      (λ t e. rw (mod-eq_of_lt {n = bits 21 16 w} {m = esize (bits 22 22 w) (bits 15 10 w)} (ltb-true _ _ e)) (omega arith))
      (λ h _. refl)
      (λ h _. refl)
      (λ p _. refl)

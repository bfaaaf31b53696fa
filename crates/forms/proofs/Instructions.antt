-- The fixed bits of a format's instructions: told by the top byte and bit 4 of a word, as the code's masks test them, and those of one format only.
-- Assumes nothing.
use mathlib.Core.Path.{◌≡◌, refl, sym, ap, subst, ◌∙◌}
use mathlib.Core.Bool.{Bool, true, false, cond, not, ◌&&◌, ◌||◌}
use mathlib.Core.List.{[], ◌∷◌}
use Prim.Native.Nat.{ℕ, ◌+◌, ◌-◌, ◌*◌, ◌/◌, ◌%◌, ◌^◌, ◌<◌, ◌≤◌}
use native.Mathlib.Nat.{mod-lt}
use native.Mathlib.Omega.{arith}
use borrow.Author.Tests.{eqb-true, ltb-true, ltb-false}
use lib.Bits.{bit_and, and_mask, and_high, and_block, and_zero_r}
use lib.Dec.{T, eqb, ltb}
use lib.ListN.{get_or-eq_default}
use lib.Pow.{pow_pos, split, mod-mod-pow}
use Rattle.arm.specs.Bits.{bits}
use Rattle.arm.specs.FixedBits.{is_b, is_bcond, is_cbz, is_tbz, is_adr, is_adrp, is_ldr}
use Rattle.words.proofs.Fields.{part, part-part}
use Rattle.words.proofs.Table.{below, below_at}
use Rattle.forms.specs.declared.Fixed.{Fixed}
use Rattle.forms.specs.Form.{is_of_form, Formed}
use Rattle.forms.specs.Private.{none, fixeds, fixed_of}
use Rattle.forms.proofs.Formats.{each}

-- from 6 on there is no format
pub no_format : (w n : ℕ) → 6 ≤ n → is_of_form n w ≡ false
unfolding is_of_form
no_format w n h = get_or-eq_default (is_b w ∷ (is_bcond w || is_cbz w) ∷ is_tbz w ∷ is_adr w ∷ is_adrp w ∷ is_ldr w ∷ []) false {n = n} h

-- ---- told by the top byte and bit 4

-- those of a word, the rest of it clear
abbrev pub key : ℕ → ℕ
key w = bits 31 24 w * 2 ^ 24 + bits 4 4 w * 2 ^ 4

module _ (w : ℕ) where
  -- a slice of the top byte
  key_top : (q l : ℕ) → 24 ≤ q → q + l ≤ 32 → part q l (key w) ≡ part q l w
  key_top q l lo hi =
      let above : key w / 2 ^ 24 ≡ part 24 8 w = omega arith in
      let top : part 24 8 (key w) ≡ part 24 8 w = ap (λ (k : ℕ). k % 2 ^ 8) above ∙ mod-mod-pow (w / 2 ^ 24) 0 8 in
      sym (part-part 24 8 q l (key w) lo (omega arith)) ∙ ap (part (q - 24) l) top ∙ part-part 24 8 q l w lo (omega arith)

  key_low : part 4 1 (key w) ≡ part 4 1 w
  key_low = omega arith

  -- they tell the form
  pub key_form : (n : ℕ) → n < 6 → is_of_form n (key w) ≡ is_of_form n w
  unfolding is_of_form
  key_form =
      each (λ n. is_of_form n (key w) ≡ is_of_form n w)
      (rw (key_top 26 5 (omega arith) (omega arith)))
      (rw (key_top 25 7 (omega arith) (omega arith), key_top 24 1 (omega arith) (omega arith), key_low, key_top 25 6 (omega arith) (omega arith)))
      (rw (key_top 25 6 (omega arith) (omega arith)))
      (rw (key_top 31 1 (omega arith) (omega arith), key_top 24 5 (omega arith) (omega arith)))
      (rw (key_top 31 1 (omega arith) (omega arith), key_top 24 5 (omega arith) (omega arith)))
      (rw (key_top 27 3 (omega arith) (omega arith), key_top 24 2 (omega arith) (omega arith), key_top 30 2 (omega arith) (omega arith), key_top 26 1 (omega arith) (omega arith)))

  top_byte : (h m : ℕ) → m < 2 ^ 24 → bit_and w (h * 2 ^ 24 + m) ≡ bit_and (w / 2 ^ 24) h * 2 ^ 24 + bit_and (w % 2 ^ 24) m
  top_byte h m l = ap (λ (k : ℕ). bit_and k (h * 2 ^ 24 + m)) (sym (split w 24)) ∙ and_block 24 (w / 2 ^ 24) h (w % 2 ^ 24) m (mod-lt w (pow_pos 24)) l

  -- a mask of both
  both_and : bit_and w 0xFF000010 ≡ key w
  both_and =
      let low : bits 4 4 (w % 2 ^ 24) ≡ bits 4 4 w = omega arith in
      top_byte 0xFF 0x10 (omega arith) ∙ rw (and_mask (w / 2 ^ 24) 8, and_high (w % 2 ^ 24) 1 4, low)

-- a mask of the top byte
key_and : (w h : ℕ) → w < 2 ^ 32 → bit_and w (h * 2 ^ 24 + 0) ≡ bit_and (key w) (h * 2 ^ 24 + 0)
key_and w h l =
    let top : key w / 2 ^ 24 ≡ w / 2 ^ 24 = omega arith in
    top_byte w h 0 (omega arith) ∙ sym (top_byte (key w) h 0 (omega arith) ∙ rw (top, and_zero_r (w % 2 ^ 24), and_zero_r (key w % 2 ^ 24)))

-- ---- the masks

-- the code's test
abbrev pub masked : Fixed → ℕ → Bool
masked f w = not (eqb (bit_and w 0xFF000000) 0xDC000000) && (eqb (bit_and w f.mask) f.bits || eqb (bit_and w f.mask2) f.bits2)

key_masked : (w : ℕ) → w < 2 ^ 32 → (n : ℕ) → n < 6 → masked (fixed_of n) w ≡ masked (fixed_of n) (key w)
key_masked w l =
    let again : key (key w) ≡ key w = omega arith in
    let both : bit_and w 0xFF000010 ≡ bit_and (key w) 0xFF000010 = both_and w ∙ sym (both_and (key w) ∙ again) in
    let dc = key_and w 0xFF l in
    each (λ n. masked (fixed_of n) w ≡ masked (fixed_of n) (key w))
    (rw (dc, key_and w 0x7C l))
    (rw (dc, both, key_and w 0x7E l))
    (rw (dc, key_and w 0x7E l))
    (rw (dc, key_and w 0x9F l))
    (rw (dc, key_and w 0x9F l))
    (rw (dc, key_and w 0x3B l))

-- ---- a rule of all keys, at the six formats: one computed test

abbrev same : Bool → Bool → Bool
same true b = b
same false b = not b

same_is : (a b : Bool) → T (same a b) → a ≡ b
same_is true true t = refl
same_is true false t = absurd t
same_is false true t = absurd t
same_is false false t = refl

-- whether f and g are the same at each of the six formats and at the key of each top byte t and bit x
abbrev test : (ℕ → ℕ → Bool) → (ℕ → ℕ → Bool) → Bool
test f g = below (λ t. below (λ x. below (λ n. same (f n (t * 2 ^ 24 + x * 2 ^ 4)) (g n (t * 2 ^ 24 + x * 2 ^ 4))) 6) 2) 256

agree : (f g : ℕ → ℕ → Bool) → test f g ≡ true → (w n : ℕ) → n < 6 → f n (key w) ≡ g n (key w)
agree f g r w n h =
    let at : ℕ → ℕ → ℕ → Bool = λ t x n. same (f n (t * 2 ^ 24 + x * 2 ^ 4)) (g n (t * 2 ^ 24 + x * 2 ^ 4)) in
    let t = bits 31 24 w in
    let x = bits 4 4 w in
    same_is (f n (key w)) (g n (key w))
    (below_at (at t x) 6 (below_at (λ x. below (at t x) 6) 2 (below_at (λ t. below (λ x. below (at t x) 6) 2) 256 (subst T (sym r) tt) t (omega arith)) x (omega arith)) n h)

masks_right : test is_of_form (λ n w. masked (fixed_of n) w) ≡ true
unfolding is_of_form
masks_right = refl

-- under no mask
no_mask : (w : ℕ) → masked none w ≡ false
no_mask w = rw (and_zero_r w) (go (eqb (bit_and w 0xFF000000) 0xDC000000))
  where
    go : (b : Bool) → (not b && (eqb 0 1 || eqb 0 1)) ≡ false
    go true = refl
    go false = refl

-- the masks test the fixed bits
pub by_masks : (w : ℕ) → w < 2 ^ 32 → (n : ℕ) → masked (fixed_of n) w ≡ is_of_form n w
by_masks w l n = go (ltb n 6) refl
  where
    go : (b : Bool) → ltb n 6 ≡ b → masked (fixed_of n) w ≡ is_of_form n w
    go true e =
        let h = ltb-true n 6 e in
        key_masked w l n h ∙ sym (agree is_of_form (λ n w. masked (fixed_of n) w) masks_right w n h) ∙ key_form w n h
    go false e =
        let h = ltb-false n 6 e in
        ap (λ (f : Fixed). masked f w) (get_or-eq_default fixeds none {n = n} h) ∙ no_mask w ∙ sym (no_format w n h)

-- the first format whose fixed bits a word has, or 6
abbrev first : ℕ → ℕ
first w = cond (is_of_form 0 w) 0 (cond (is_of_form 1 w) 1 (cond (is_of_form 2 w) 2 (cond (is_of_form 3 w) 3 (cond (is_of_form 4 w) 4 (cond (is_of_form 5 w) 5 6)))))

only_first : test is_of_form (λ n w. eqb (first w) n) ≡ true
unfolding is_of_form
only_first = refl

-- a word has the fixed bits of one format at most
pub one_form : (w m n : ℕ) → m < 6 → n < 6 → Formed m w → Formed n w → m ≡ n
one_form w m n hm hn a b =
    let at : (k : ℕ) → k < 6 → Formed k w → first (key w) ≡ k =
    λ k h f. eqb-true (first (key w)) k (sym (agree is_of_form (λ n w. eqb (first w) n) only_first w k h) ∙ key_form w k h ∙ f) in
    sym (at m hm a) ∙ at n hn b

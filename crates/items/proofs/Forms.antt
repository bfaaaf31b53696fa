-- The format of a word, by its form; and what a word is that has one, or none. Assumes nothing.
use mathlib.Core.Path.{◌≡◌, refl, sym}
use mathlib.Core.Bool.{Bool, true, false, cond, ◌&&◌}
use Prim.Native.Nat.{ℕ, ◌<◌}
use native.Mathlib.Omega.{arith}
use borrow.Author.Tests.{ne_eqb}
use lib.Dec.{eqb}
use Rattle.arm.specs.Bits.{bits}
use Rattle.forms.specs.Form.{is_of_form, Formed}
use Rattle.forms.proofs.Formats.{each}
use Rattle.forms.proofs.Instructions.{one_form}
use Rattle.std.specs.Prelude.{None, Some, Option as RustOption, option_map}
use Rattle.forms.specs.Format.{format_number}
use Rattle.forms.specs.declared.Format.{Format}
use Rattle.forms.specs.declared.Format.TheVariants.{Branch26, Branch19, Branch14, Adr, Adrp, Ldr}
use Rattle.items.specs.declared.Displacement.{Displacement}
use Rattle.items.specs.declared.Item.{Item}
use Rattle.items.specs.declared.Item.TheVariants as item
use Rattle.items.specs.Items.{opc, form_number, displacement_of, displaced_of}
use Rattle.items.specs.Private.{displacement_in}

module _ (w : ℕ) where
  -- ---- the first form that fits, as the code looks for it

  pub first_0 : is_of_form 0 w ≡ true → 0 ≡ form_number w
  unfolding form_number
  first_0 a = sym (rw a)

  module _ (a : is_of_form 0 w ≡ false) where
    pub first_1 : is_of_form 1 w ≡ true → 1 ≡ form_number w
    unfolding form_number
    first_1 b = sym (rw (a, b))

    module _ (b : is_of_form 1 w ≡ false) where
      pub first_2 : is_of_form 2 w ≡ true → 2 ≡ form_number w
      unfolding form_number
      first_2 d = sym (rw (a, b, d))

      module _ (d : is_of_form 2 w ≡ false) where
        pub first_3 : is_of_form 3 w ≡ true → 3 ≡ form_number w
        unfolding form_number
        first_3 e = sym (rw (a, b, d, e))

        module _ (e : is_of_form 3 w ≡ false) where
          pub first_4 : is_of_form 4 w ≡ true → 4 ≡ form_number w
          unfolding form_number
          first_4 f = sym (rw (a, b, d, e, f))

          module _ (f : is_of_form 4 w ≡ false) where
            pub first_5 : is_of_form 5 w ≡ true → 5 ≡ form_number w
            unfolding form_number
            first_5 g = sym (rw (a, b, d, e, f, g))

            pub first_6 : is_of_form 5 w ≡ false → 6 ≡ form_number w
            unfolding form_number
            first_6 g = sym (rw (a, b, d, e, f, g))

  -- ---- it is the word's

  -- where there is one, the word has its form
  pub form_has : form_number w < 6 → Formed (form_number w) w
  unfolding form_number
  form_has = go (is_of_form 0 w) refl (is_of_form 1 w) refl (is_of_form 2 w) refl (is_of_form 3 w) refl (is_of_form 4 w) refl (is_of_form 5 w) refl
    where
      go : (a : Bool) → is_of_form 0 w ≡ a → (b : Bool) → is_of_form 1 w ≡ b → (c : Bool) → is_of_form 2 w ≡ c → (d : Bool) → is_of_form 3 w ≡ d → (e : Bool) → is_of_form 4 w ≡ e
          → (f : Bool) → is_of_form 5 w ≡ f
          → let n : ℕ = cond a 0 (cond b 1 (cond c 2 (cond d 3 (cond e 4 (cond f 5 6))))) in n < 6 → Formed n w
      go true p b q c r d s e t f u h = p
      go false p true q c r d s e t f u h = q
      go false p false q true r d s e t f u h = r
      go false p false q false r true s e t f u h = s
      go false p false q false r false s true t f u h = t
      go false p false q false r false s false t true u h = u
      go false p false q false r false s false t false u h = absurd (omega arith)

  -- n is the word's, if it has n's form and no other
  abbrev Only : ℕ → Type 0
  Only n = Formed n w → ((m : ℕ) → m < 6 → (m ≡ n → ⊥) → is_of_form m w ≡ false) → n ≡ form_number w

  only : (n : ℕ) → n < 6 → Only n
  only =
      each Only
      (λ f k. first_0 f)
      (λ f k. first_1 (k 0 (omega arith) (λ e. omega arith)) f)
      (λ f k. first_2 (k 0 (omega arith) (λ e. omega arith)) (k 1 (omega arith) (λ e. omega arith)) f)
      (λ f k. first_3 (k 0 (omega arith) (λ e. omega arith)) (k 1 (omega arith) (λ e. omega arith)) (k 2 (omega arith) (λ e. omega arith)) f)
      (λ f k.
      first_4 (k 0 (omega arith) (λ e. omega arith)) (k 1 (omega arith) (λ e. omega arith)) (k 2 (omega arith) (λ e. omega arith)) (k 3 (omega arith) (λ e. omega arith)) f)
      (λ f k.
      first_5 (k 0 (omega arith) (λ e. omega arith)) (k 1 (omega arith) (λ e. omega arith)) (k 2 (omega arith) (λ e. omega arith)) (k 3 (omega arith) (λ e. omega arith))
      (k 4 (omega arith) (λ e. omega arith)) f)

  module _ (n : ℕ) (h : n < 6) (f : Formed n w) where
    others : (m : ℕ) → m < 6 → (m ≡ n → ⊥) → is_of_form m w ≡ false
    others m l k = go (is_of_form m w) refl
      where
        go : (b : Bool) → is_of_form m w ≡ b → b ≡ false
        go true e = absurd (k (one_form w m n l h e f))
        go false e = refl

    pub form_is : n ≡ form_number w
    form_is = only n h f others

  -- ---- wide moves and logical immediates have none: bits 28 to 24 are 10010

  module _ (g : bits 28 24 w ≡ 0b10010) where
    adr : (b : Bool) → (b && eqb 0b10010 0b10000) ≡ false
    adr true = refl
    adr false = refl

    apart : (n : ℕ) → n < 6 → is_of_form n w ≡ false
    unfolding is_of_form
    apart =
        each (λ n. is_of_form n w ≡ false)
        (ne_eqb (bits 30 26 w) 0b00101 (λ k. omega arith))
        (rw (ne_eqb (bits 31 25 w) 0b0101010 (λ k. omega arith), ne_eqb (bits 30 25 w) 0b011010 (λ k. omega arith)))
        (ne_eqb (bits 30 25 w) 0b011011 (λ k. omega arith))
        (rw g (adr (eqb (bits 31 31 w) 0)))
        (rw g (adr (eqb (bits 31 31 w) 1)))
        (rw (ne_eqb (bits 29 27 w) 0b011 (λ k. omega arith)))

    pub form_none : 6 ≡ form_number w
    form_none =
        first_6 (apart 0 (omega arith)) (apart 1 (omega arith)) (apart 2 (omega arith)) (apart 3 (omega arith)) (apart 4 (omega arith)) (apart 5 (omega arith))

  -- ---- what it is, by the format found

  abbrev pub displaced_or : RustOption Displacement → Item
  displaced_or None = item.Unknown (opc w)
  displaced_or (Some d) = item.Displaced d

  pub displaced_is : displaced_or (displacement_in w) ≡ displaced_of w (form_number w)
  unfolding form_number
  displaced_is = go (is_of_form 0 w) (is_of_form 1 w) (is_of_form 2 w) (is_of_form 3 w) (is_of_form 4 w) (is_of_form 5 w)
    where
      at : Format → Displacement
      at f = displacement_of w (format_number f)

      go : (a b c d e f : Bool)
          → displaced_or (option_map at (cond a (Some Branch26) (cond b (Some Branch19) (cond c (Some Branch14) (cond d (Some Adr) (cond e (Some Adrp) (cond f (Some Ldr) None)))))))
          ≡ displaced_of w (cond a 0 (cond b 1 (cond c 2 (cond d 3 (cond e 4 (cond f 5 6))))))
      go true b c d e f = refl
      go false true c d e f = refl
      go false false true d e f = refl
      go false false false true e f = refl
      go false false false false true f = refl
      go false false false false false true = refl
      go false false false false false false = refl

  -- a word of that group is no displacement
  pub none_in : bits 28 24 w ≡ 0b10010 → None ≡ displacement_in w
  none_in g = sym (rw (apart g 0 (omega arith), apart g 1 (omega arith), apart g 2 (omega arith), apart g 3 (omega arith), apart g 4 (omega arith), apart g 5 (omega arith)))

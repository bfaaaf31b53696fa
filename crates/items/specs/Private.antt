-- What only the contracts of private functions cite. Assumes nothing.
use Rattle.std.specs.Prelude.{List, [], ◌∷◌, ℕ, None, Some, Option as RustOption, option_map}
use Rattle.std.specs.List.{find}
use Rattle.std.proofs.Math.Option.{Option, none, some}
use Rattle.arm.specs.LogicalImmediate.{Logical, decode_logical}
use Rattle.forms.specs.Form.{is_of_form}
use Rattle.forms.specs.Format.{format_number}
use Rattle.forms.specs.declared.Format.{Format}
use Rattle.forms.specs.declared.Format.TheVariants.{Branch26, Branch19, Branch14, Adr, Adrp, Ldr}
use Rattle.items.specs.Items.{displacement_of, logical_word_item}
use Rattle.items.specs.declared.Displacement.{Displacement}
use Rattle.items.specs.declared.LogicalWord.{LogicalWord}

abbrev pub formats : List Format
formats = Branch26 ∷ Branch19 ∷ Branch14 ∷ Adr ∷ Adrp ∷ Ldr ∷ []

-- the format whose form a word has
abbrev pub format_in : ℕ → RustOption Format
format_in w = find (λ f. is_of_form (format_number f) w) formats

abbrev pub displacement_in : ℕ → RustOption Displacement
displacement_in w = option_map (λ f. displacement_of w (format_number f)) (format_in w)

abbrev pub logical_word_in : Option Logical → RustOption LogicalWord
logical_word_in none = None
logical_word_in (some m) = Some (logical_word_item m)

abbrev pub logical_in : ℕ → RustOption LogicalWord
logical_in w = logical_word_in (decode_logical w)

-- The logical words and the displacements of this port are read as what was asked. Assumes nothing.
use mathlib.Core.Path.{◌≡◌, refl, ap, ◌∙◌}
use mathlib.Core.Bool.{true}
use mathlib.Core.List.{[], ◌∷◌}
use Prim.Native.Nat.{ℕ, ◌/◌, ◌%◌, ◌^◌, ◌≤◌}
use native.Mathlib.Nat.{mod-lt}
use native.Mathlib.Omega.{arith}
use borrow.Author.Tests.{lt-ltb, le-ltb}
use lib.IntN.{ℤ}
use lib.Pow.{pow_pos}
use mir.Syntax.{w64}
use mir.Val.{to_z}
use Rattle.arm.specs.BitMasks.{esize}
use Rattle.arm.specs.LogicalImmediate.{decode_logical}
use Rattle.arm.specs.MoveWide.{datasize}
use Rattle.arm.proofs.Lengths.{at_widths}
use Rattle.arm.proofs.Logical.{decoded}
use Rattle.words.specs.Said.{ok}
use Rattle.logical.specs.Answer.{Encoded}
use Rattle.logical.specs.declared.LogicalImm.{LogicalImm}
use Rattle.logical_words.specs.Word.{word_of}
use Rattle.logical_words.proofs.Word.{word_made, word_spelled}
use Rattle.displacements.specs.Forms.{form_of, clear_in}
use Rattle.displacements.specs.Answer.{steps_of, offset, disp_said}
use Rattle.displacements.specs.Says.{Says, word}
use Rattle.displacements.proofs.Laws.{sound}
use Rattle.displacements.proofs.Cleared.{clear_put}
use Rattle.displacements.proofs.Demands as displacements
use Rattle.items.specs.declared.Item.{Item}
use Rattle.items.specs.declared.Item.TheVariants as item
use Rattle.items.specs.Items.{opc, item_of}
use Rattle.items.proofs.Logicals.{operation_is}
use Rattle.items.proofs.Readings as readings

-- the item of a logical word that was asked for: the value is the low bits, in the fields that the encoder gave, which are normal
abbrev pub logical_item : (operation v w rn rd : ℕ) → LogicalImm → Item
logical_item operation v w rn rd f =
    item.Logical (record {
      operation = operation;
      width = w;
      rn = rn;
      rd = rd;
      value = v % 2 ^ w;
      n = f.n;
      s = f.s;
      r = f.r;
      length = f.length;
      normal = true;
    })

pub logical_read : (operation v w rn rd x : ℕ) (f : LogicalImm) → Encoded w v (ok f) → word_of operation w rn rd (ok f) ≡ ok (x ∷ [])
    → item_of x ≡ logical_item operation v w rn rd f
logical_read operation v w rn rd x f e q =
    let m = word_made operation w rn rd x (ok f) q in
    let same : m.f ≡ f = out m.given in
    let size : datasize (w / 64) ≡ w = at_widths (λ (k : ℕ). datasize (k / 64) ≡ k) refl refl w e.0 in
    let sf : w / 64 ≤ 1 = at_widths (λ (k : ℕ). k / 64 ≤ 1) (omega arith) (omega arith) w e.0 in
    let fields =
    decoded (w / 64) operation f.n f.r f.s rn rd (omega arith) (omega (arith, m.known)) (rw size e.1.legal) (omega (arith, m.rn_low)) (omega (arith, m.rd_low)) in
    readings.logical_read x _ (ap decode_logical (rw same at m.word ∙ word_spelled operation w rn rd f m.known e.0) ∙ fields)
    ∙ rw (size, operation_is operation (omega (arith, m.known)), e.1.mask, lt-ltb f.r (esize f.n f.s) e.2, e.3)
  where
    out : {g h : LogicalImm} → ok g ≡ ok h → h ≡ g
    out e = cc

-- the item of a displacement that was asked for: the base is the word with its field empty
abbrev pub displaced_item : ℕ → ℕ → ℤ → Item
displaced_item n b d = item.Displaced (record { format = n; base = opc b; distance = record { 0 = d } })

pub displacement_read : (n b : ℕ) (d : ℤ) (w : ℕ) → disp_said n b d ≡ ok (w ∷ []) → item_of w ≡ displaced_item n b d
displacement_read n b d w e = go w ((displacements.exactly n b d (ok (w ∷ []))).0 e) e
  where
    out : {x y : ℤ} → ok x ≡ ok y → x ≡ y
    out q = cc

    go : (w : ℕ) → Says n b d (ok (w ∷ [])) → disp_said n b d ≡ ok (w ∷ []) → item_of w ≡ displaced_item n b d
    go w (word h free on r) e =
        let f = form_of n in
        let l = h.at in
        let base : clear_in f w ≡ b = clear_put f (sound n l) b free (steps_of f d) (mod-lt _ (pow_pos f.bits)) in
        let distance : to_z w64 (offset n w) ≡ d = out (rw (le-ltb 5 n (omega arith)) at (displacements.read_back n b d w e)) in
        readings.displaced_read w n l (displacements.form_kept n b d w e) ∙ rw (base, distance)

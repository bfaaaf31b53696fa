-- What the entries of this port have written is read back: from their promises, after a call that was not turned down. Assumes nothing.
use mathlib.Core.Path.{◌≡◌, refl, sym, ap, subst, ◌∙◌}
use mathlib.Core.List.{List, [], ◌∷◌, ◌++◌, append_assoc}
use mathlib.Core.Option.{Option}
use Prim.Native.Nat.{ℕ, ◌+◌, ◌/◌, ◌%◌, ◌^◌, ◌<◌}
use native.Mathlib.Nat.{mod-eq_of_lt}
use native.Mathlib.Omega.{arith}
use lib.IntN.{ℤ}
use lib.ListN.{length, take, drop, get_or}
use lib.Seq.{sets-eq, length-sets, drop_at, drop-drop, length-take-le}
use Rattle.std.specs.Prelude.{Ok}
use Rattle.words.specs.Said.{Said, ok}
use Rattle.words.specs.Place.{pos_of, address_of}
use Rattle.words.specs.declared.Place.{Place}
use Rattle.words.proofs.Answers.{not_both}
use Rattle.writers.specs.Put.{put_of}
use Rattle.writers.proofs.Writes.{put-done}
use Rattle.moves.specs.Moves.{words_of_move, mov_said}
use Rattle.moves.proofs.Calls.{Put}
use Rattle.moves.proofs.Lengths.{mov_by}
use Rattle.patchable_moves.specs.Patchable.{patch64, patch32, patch_said}
use Rattle.patchable_moves.proofs.Lengths.{patch_by, patch64_length, patch32_length}
use Rattle.logical.specs.Answer.{Encoded}
use Rattle.logical.specs.declared.LogicalImm.{LogicalImm}
use Rattle.logical_words.specs.Word.{word_of}
use Rattle.logical_words.proofs.Word.{word_alone, word_made}
use Rattle.displacements.specs.Forms.{form_of, clear_in}
use Rattle.displacements.specs.Answer.{disp_said}
use Rattle.displacements.proofs.Demands.{Emitted, one_put, emitted}
use Rattle.disp_targets.specs.Target.{page_of, between, target_said, low_of, carried}
use Rattle.disp_targets.proofs.Targets.{carried_parts}
use Rattle.retargets.specs.Retarget.{word_at, again_said}
use Rattle.retargets.proofs.Answers.{again_alone}
use Rattle.retargets.proofs.Demands.{sent}
use Rattle.items.specs.declared.Item.{Item}
use Rattle.items.specs.Items.{item_of}
use Rattle.reader.specs.declared.Found.TheVariants.{Joined, Single}
use Rattle.reader.specs.Found.{span, found_item, found_of}
use Rattle.reader.proofs.Finds.{inside}
use Rattle.read_back.proofs.Moves.{constant, Ends, size_of, mov_read, patch64_read, patch32_read}
use Rattle.read_back.proofs.Words.{logical_item, logical_read, displaced_item, displacement_read}

module _ (ws : List ℕ) (at p : Place) (ws' : List ℕ) where
  -- the words that were put, and what stands behind them
  record Stands (x : Said (List ℕ)) : Type 0 where
    vs : List ℕ
    asked : x ≡ ok vs
    past : pos_of p ≡ pos_of at + length vs
    here : drop (pos_of at) ws' ≡ vs ++ drop (pos_of p) ws'

  stands : (x : Said (List ℕ)) → Put ws at p ws' x → Stands x
  stands x e =
      let d = put-done ws at x ws' p e in
      let i = pos_of at in
      let vs = d.vs in
      let rest = drop (i + length vs) ws in
      let past : pos_of p ≡ i + length vs = ap pos_of d.past in
      let here : drop i ws' ≡ vs ++ rest =
      ap (drop i) (d.holds ∙ sets-eq vs ws i d.fits ∙ append_assoc (take i ws) vs rest) ∙ drop_at (take i ws) (vs ++ rest) i (length-take-le i ws (omega (arith, d.fits))) in
      let there : drop (pos_of p) ws' ≡ rest = ap (λ (k : ℕ). drop k ws') past ∙ sym (drop-drop (length vs) i ws') ∙ ap (drop (length vs)) here ∙ drop_at vs rest (length vs) refl in
      record { vs = vs; asked = d.asked; past = past; here = here ∙ ap (λ (l : List ℕ). vs ++ l) (sym there) }

  -- a move
  pub moved_read : (v rd : ℕ) → v < 2 ^ 64 → Put ws at p ws' (mov_said v rd) → let xs = words_of_move v rd in Ends (size_of xs) rd (drop (pos_of p) ws')
      → found_of ws' (pos_of at) ≡ Ok (Joined (constant (size_of xs) rd v (length xs)) (span (pos_of at) (pos_of p)))
  moved_read v rd l e end = let s = stands (mov_said v rd) e in go s.vs s.asked s.past s.here
    where
      go : (vs : List ℕ) → mov_said v rd ≡ ok vs → pos_of p ≡ pos_of at + length vs → drop (pos_of at) ws' ≡ vs ++ drop (pos_of p) ws'
          → found_of ws' (pos_of at) ≡ Ok (Joined (constant (size_of (words_of_move v rd)) rd v (length (words_of_move v rd))) (span (pos_of at) (pos_of p)))
      go vs =
          mov_by v rd
          (λ x. x ≡ ok vs → pos_of p ≡ pos_of at + length vs → drop (pos_of at) ws' ≡ vs ++ drop (pos_of p) ws'
          → found_of ws' (pos_of at) ≡ Ok (Joined (constant (size_of (words_of_move v rd)) rd v (length (words_of_move v rd))) (span (pos_of at) (pos_of p))))
          (λ h q past here. absurd (not_both (sym q)))
          (λ h q past here.
          let same : vs ≡ words_of_move v rd = cc in
          rw (past, same) (mov_read rd h ws' (pos_of at) (drop (pos_of p) ws') v l (rw same at here) end))

  -- a patchable move, at 64 and 32
  pub patched_read : (v size rd : ℕ) → v < 2 ^ 64 → Put ws at p ws' (patch_said v size rd) → Ends (size / 64) rd (drop (pos_of p) ws')
      → found_of ws' (pos_of at) ≡ Ok (Joined (constant (size / 64) rd (v % 2 ^ size) (size / 16)) (span (pos_of at) (pos_of p)))
  patched_read v size rd l e end = let s = stands (patch_said v size rd) e in go s.vs s.asked s.past s.here
    where
      go : (vs : List ℕ) → patch_said v size rd ≡ ok vs → pos_of p ≡ pos_of at + length vs → drop (pos_of at) ws' ≡ vs ++ drop (pos_of p) ws'
          → found_of ws' (pos_of at) ≡ Ok (Joined (constant (size / 64) rd (v % 2 ^ size) (size / 16)) (span (pos_of at) (pos_of p)))
      go vs =
          patch_by v size rd
          (λ x. x ≡ ok vs → pos_of p ≡ pos_of at + length vs → drop (pos_of at) ws' ≡ vs ++ drop (pos_of p) ws'
          → found_of ws' (pos_of at) ≡ Ok (Joined (constant (size / 64) rd (v % 2 ^ size) (size / 16)) (span (pos_of at) (pos_of p))))
          (λ q past here. absurd (not_both (sym q)))
          (λ q past here. absurd (not_both (sym q)))
          (λ s h q past here.
          let same : vs ≡ patch64 v rd = cc in
          let n : pos_of p ≡ pos_of at + 4 = past ∙ ap (λ (l : List ℕ). pos_of at + length l) same ∙ ap (λ (k : ℕ). pos_of at + k) (patch64_length v rd) in
          rw (s, mod-eq_of_lt l, n) (patch64_read rd h ws' (pos_of at) (drop (pos_of p) ws') v l (rw same at here) (rw s at end)))
          (λ s h q past here.
          let same : vs ≡ patch32 v rd = cc in
          let n : pos_of p ≡ pos_of at + 2 = past ∙ ap (λ (l : List ℕ). pos_of at + length l) same ∙ ap (λ (k : ℕ). pos_of at + k) (patch32_length v rd) in
          rw (s, n) (patch32_read rd h ws' (pos_of at) (drop (pos_of p) ws') v (rw same at here) (rw s at end)))

  -- one word
  one_read : (x : Said (List ℕ)) → Put ws at p ws' x → Emitted ws at x p ws' → {i : Item} → item_of (get_or ws' (pos_of at) 0) ≡ i
      → found_item ws' (pos_of at) i ≡ Single i (span (pos_of at) (pos_of at + 1)) → found_of ws' (pos_of at) ≡ Ok (Single i (span (pos_of at) (pos_of p)))
  one_read x e t {i} is alone =
      let d = put-done ws at x ws' p e in
      let n : length ws' ≡ length ws = ap length d.holds ∙ length-sets ws (pos_of at) d.vs in
      let next : pos_of p ≡ pos_of at + 1 = ap pos_of t.past in
      inside ws' (pos_of at) (omega (arith, n, t.room)) ∙ ap Ok (ap (found_item ws' (pos_of at)) is ∙ alone ∙ ap (λ (k : ℕ). Single i (span (pos_of at) k)) (sym next))

  -- a displacement
  pub displaced_read : (n b : ℕ) (d : ℤ) → Put ws at p ws' (disp_said n b d)
      → found_of ws' (pos_of at) ≡ Ok (Single (displaced_item n b d) (span (pos_of at) (pos_of p)))
  displaced_read n b d e =
      let t = emitted ws at n b d p ws' e in
      one_read (disp_said n b d) e t (displacement_read n b d (get_or ws' (pos_of at) 0) t.there) refl

  -- by a target
  pub target_read : (n b t : ℕ) (l : Option ℕ) → (ok (p, l), ws') ≡ carried (low_of n t) (put_of ws at (target_said n b t (address_of at)))
      → found_of ws' (pos_of at) ≡ Ok (Single (displaced_item n b (between (page_of n t) (page_of n (address_of at)))) (span (pos_of at) (pos_of p)))
  target_read n b t l e = displaced_read n b (between (page_of n t) (page_of n (address_of at))) (carried_parts (low_of n t) _ p l ws' e).0

  -- another distance for a word already written
  pub retarget_read : (n : ℕ) (d : ℤ) → Put ws at p ws' (again_said n (word_at ws (pos_of at)) d)
      → found_of ws' (pos_of at) ≡ Ok (Single (displaced_item n (clear_in (form_of n) (get_or ws (pos_of at) 0)) d) (span (pos_of at) (pos_of p)))
  retarget_read n d e =
      let x = again_said n (word_at ws (pos_of at)) d in
      let t = one_put ws at x p ws' (again_alone n (word_at ws (pos_of at)) d) e in
      let w = get_or ws' (pos_of at) 0 in
      one_read x e t (displacement_read n (clear_in (form_of n) (get_or ws (pos_of at) 0)) d w (sent ws (pos_of at) n d w t.there).base) refl

  -- a logical word, from an answer of the encoder
  pub logical_word_read : (operation v w rn rd : ℕ) (a : Said LogicalImm) → Encoded w v a → Put ws at p ws' (word_of operation w rn rd a)
      → (f : LogicalImm) × (a ≡ ok f) × (found_of ws' (pos_of at) ≡ Ok (Single (logical_item operation v w rn rd f) (span (pos_of at) (pos_of p))))
  logical_word_read operation v w rn rd a h e =
      let t = one_put ws at (word_of operation w rn rd a) p ws' (word_alone operation w rn rd a) e in
      let x = get_or ws' (pos_of at) 0 in
      let m = word_made operation w rn rd x a t.there in
      let there : word_of operation w rn rd (ok m.f) ≡ ok (x ∷ []) = sym (ap (word_of operation w rn rd) m.given) ∙ t.there in
      let i = logical_read operation v w rn rd x m.f (subst (λ (b : Said LogicalImm). Encoded w v b) m.given h) there in
      (m.f, m.given, one_read (word_of operation w rn rd a) e t i refl)

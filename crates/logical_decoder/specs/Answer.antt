-- Module 4 of document 01: what the decoder and the normaliser say, and when. What fields mean is Arm's DecodeBitMasks. Assumes nothing.
use Rattle.std.specs.Prelude.{◌≡◌, ℕ, ◌%◌}
use Rattle.arm.specs.BitMasks.{IsWidth, Legal, esize}
use Rattle.words.specs.Said.{Said, ok, no}
use Rattle.logical.specs.Answer.{fields, Refused, Decodes}
use Rattle.logical.specs.declared.LogicalImm.{LogicalImm}

-- the decoder: the mask that the fields decode to; 3 "where Arm leaves it undefined", and for fields of more than one, six and six bits
abbrev pub Decoded : ℕ → ℕ → ℕ → ℕ → Said ℕ → Type 0
Decoded w n s r (ok m) = IsWidth w × Decodes w n s r m
Decoded w n s r (no k) = Refused k (IsWidth w) (Legal w n s r → ⊥)

-- the normaliser: the same N and S, R reduced by the element length, and that length; 3 where the decoder gives it
abbrev pub Normal : ℕ → ℕ → ℕ → ℕ → Said LogicalImm → Type 0
Normal w n s r (ok f) = IsWidth w × Legal w n s r × (f ≡ fields n s (r % esize n s))
Normal w n s r (no k) = Refused k (IsWidth w) (Legal w n s r → ⊥)

-- Words that GNU as gave for the instruction beside them, and the order of the refusals, through the function that computes the encoder's answer
-- (`the-answer` of logical/proofs/Model). Assumes nothing.
use mathlib.Core.Path.{refl}
use mathlib.Core.List.{List, [], ◌∷◌}
use Prim.Native.Nat.{ℕ}
use Rattle.arm.proofs.Worked.{Worked}
use Rattle.words.specs.Said.{Said, ok, no}
use Rattle.logical.proofs.Model.{encode_of}
use Rattle.logical_words.specs.Word.{word_of}

abbrev word_for : (operation v w rn rd : ℕ) → Said (List ℕ)
word_for operation v w rn rd = word_of operation w rn rd (encode_of w v)

pub words :
    Worked
    ((word_for 0 0xFF 64 3 4, ok (0x92401C64 ∷ []))  -- and x4, x3, #0xff
    ∷ (word_for 0 0xFF 32 3 4, ok (0x12001C64 ∷ []))  -- and w4, w3, #0xff
    ∷ (word_for 1 0xAAAAAAAAAAAAAAAA 64 30 0, ok (0xB201F3C0 ∷ []))  -- orr x0, x30, #0xaaaaaaaaaaaaaaaa
    ∷ (word_for 1 0x80000001 32 31 7, ok (0x320107E7 ∷ []))  -- orr w7, wzr, #0x80000001
    ∷ (word_for 2 0x8000000000000001 64 1 9, ok (0xD2410429 ∷ []))  -- eor x9, x1, #0x8000000000000001
    ∷ (word_for 2 0x7FFFFFFF 32 1 0, ok (0x52007820 ∷ []))  -- eor w0, w1, #0x7fffffff
    ∷ (word_for 3 0x0FF00FF00FF00FF0 64 2 31, ok (0xF20C9C5F ∷ []))  -- ands xzr, x2, #0xff00ff00ff00ff0
    ∷ (word_for 3 0xFFF00FFF 32 6 5, ok (0x720C5CC5 ∷ []))  -- ands w5, w6, #0xfff00fff
    ∷ (word_for 0 0xFFFFFFFFFFFFFFFE 64 3 31, ok (0x927FF87F ∷ []))  -- and sp, x3, #0xfffffffffffffffe
    ∷ (word_for 4 5 16 32 32, no 7)  -- the order of the refusals
    ∷ (word_for 3 5 16 32 32, no 1)
    ∷ (word_for 3 5 64 32 31, no 2)
    ∷ (word_for 3 5 64 31 32, no 2)
    ∷ (word_for 3 5 64 31 31, no 3)
    ∷ [])
unfolding word_of encode_of
words = refl

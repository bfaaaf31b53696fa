-- Each public entry's contract allows one answer. Assumes nothing.
use Rattle.words.proofs.Contracts.{OneAnswer, one_answer}
use Rattle.words.proofs.number.Reads as number
use Rattle.words.proofs.numbered.Reads as numbered
use Rattle.words.proofs.address_of.Reads as address_of
use Rattle.words.proofs.one.Reads as one
use Rattle.words.proofs.two.Reads as two
use Rattle.words.proofs.three.Reads as three
use Rattle.words.proofs.four.Reads as four
use Rattle.words.proofs.bit_test.Reads as bit_test
use Rattle.words.proofs.least.Reads as least
use Rattle.words.proofs.lsb_mask.Reads as lsb_mask
use Rattle.words.proofs.low_bits.Reads as low_bits
use Rattle.words.proofs.signed_of.Reads as signed_of
use Rattle.words.proofs.bits_of.Reads as bits_of

pub number_determined : OneAnswer number.Post
number_determined k a r s x y p q = one_answer p q

pub numbered_determined : OneAnswer numbered.Post
numbered_determined k a r s x y p q = one_answer p q

pub address_of_determined : OneAnswer address_of.Post
address_of_determined k a r s x y p q = one_answer p q

pub one_determined : OneAnswer one.Post
one_determined k a r s x y p q = one_answer p q

pub two_determined : OneAnswer two.Post
two_determined k a r s x y p q = one_answer p q

pub three_determined : OneAnswer three.Post
three_determined k a r s x y p q = one_answer p q

pub four_determined : OneAnswer four.Post
four_determined k a r s x y p q = one_answer p q

pub bit_test_determined : OneAnswer bit_test.Post
bit_test_determined k a r s x y p q = one_answer p q

pub least_determined : OneAnswer least.Post
least_determined k a r s x y p q = one_answer p q

pub lsb_mask_determined : OneAnswer lsb_mask.Post
lsb_mask_determined k a r s x y p q = one_answer p q

pub low_bits_determined : OneAnswer low_bits.Post
low_bits_determined k a r s x y p q = one_answer p q

pub signed_of_determined : OneAnswer signed_of.Post
signed_of_determined k a r s x y p q = one_answer p q

pub bits_of_determined : OneAnswer bits_of.Post
bits_of_determined k a r s x y p q = one_answer p q

-- Why a sum of words needs no order: XOR is an abelian group in which every word is its own inverse.
use Rattle.std.specs.Prelude.{◌≡◌, List, ◌++◌}
use Rattle.std.specs.List.{All}
use Rattle.std.specs.List.Sorted.{IsPermutation}
use Rattle.fg_words.specs.declared.Word.{Word}
use Rattle.fg_words.specs.Word.{zero_word, word_xor, word_sum, HasRoom}

abbrev pub XorCommutes : Type 0
XorCommutes = (a b : Word) → word_xor a b ≡ word_xor b a

abbrev pub XorAssociates : Type 0
XorAssociates = (a b c : Word) → word_xor (word_xor a b) c ≡ word_xor a (word_xor b c)

abbrev pub XorHasZero : Type 0
XorHasZero = (a : Word) → HasRoom a → word_xor a zero_word ≡ a

abbrev pub XorUndoesItself : Type 0
XorUndoesItself = (a : Word) → HasRoom a → word_xor a a ≡ zero_word

-- The sum of two lists, one after the other, is the XOR of their sums.
abbrev pub SumAppends : Type 0
SumAppends =
    (us ws : List Word) → All HasRoom us → All HasRoom ws
    → word_sum (us ++ ws) ≡ word_xor (word_sum us) (word_sum ws)

-- The same words in another order have the same sum.
abbrev pub SumIgnoresOrder : Type 0
SumIgnoresOrder =
    (us ws : List Word) → All HasRoom us → IsPermutation us ws → word_sum ws ≡ word_sum us

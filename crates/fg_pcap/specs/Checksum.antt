-- The internet checksum (RFC 1071), which the header of IPv4 has (RFC 791).
use Rattle.std.specs.Prelude.{ℕ, ◌+◌, ◌-◌, ◌*◌, ◌/◌, ◌%◌, ◌^◌, List, [], ◌∷◌}

-- The bytes in pairs, each pair a word of 16 bits with its highest byte first. A last byte without another has a zero after
-- it.
abbrev pub words_of : List ℕ → List ℕ
words_of [] = []
words_of (high ∷ []) = (high * 2 ^ 8) ∷ []
words_of (high ∷ low ∷ bytes) = (high * 2 ^ 8 + low) ∷ words_of bytes

-- The ones' complement sum of two words: what is carried out of the highest bit is added at the lowest.
abbrev pub ones_sum : ℕ → ℕ → ℕ
ones_sum a b = (a + b) % 2 ^ 16 + (a + b) / 2 ^ 16

-- And of a list of words.
abbrev pub sum_of_words : List ℕ → ℕ
sum_of_words [] = 0
sum_of_words (word ∷ words) = ones_sum word (sum_of_words words)

-- All bits set: what the words of bytes with a right checksum sum up to.
abbrev pub all_ones : ℕ
all_ones = 2 ^ 16 - 1

-- The checksum of bytes: the complement of the ones' complement sum of their words.
abbrev pub checksum : List ℕ → ℕ
checksum bytes = all_ones - sum_of_words (words_of bytes)

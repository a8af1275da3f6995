-- What makes the parity datagram a good definition.
use Rattle.std.specs.Prelude.{◌≡◌, ◌⊎◌, ◌<◌, ◌^◌, ℕ, List}
use Rattle.fg_words.specs.Word.{HasRoom}
use Rattle.fg_fechead.specs.declared.Parity.{Parity}
use Rattle.fg_fechead.specs.ParityDatagram.{IsParityDatagram, CanBeWritten, parity_bytes}

-- Bytes are a parity datagram of at most one parity.
abbrev pub ReadsOneWay : Type 0
ReadsOneWay = (bytes : List ℕ) (parity parity' : Parity) →
    IsParityDatagram bytes parity → IsParityDatagram bytes parity' → parity ≡ parity'

-- Bytes are a parity datagram, or they are none.
abbrev pub ParityIsDecided : Type 0
ParityIsDecided = (bytes : List ℕ) →
    ((parity : Parity) × IsParityDatagram bytes parity) ⊎ ((parity : Parity) → ¬ IsParityDatagram bytes parity)

-- What is written for a parity is a parity datagram of it, and is read as no other.
abbrev pub WrittenIsRead : Type 0
WrittenIsRead = (seq ts : ℕ) (parity : Parity) (size : ℕ) → CanBeWritten parity size
    → parity.base < 2 ^ 16 → parity.word.len < 2 ^ 16 → parity.word.ts < 2 ^ 32 → HasRoom parity.word
    → IsParityDatagram (parity_bytes seq ts parity size) parity
    × ((other : Parity) → IsParityDatagram (parity_bytes seq ts parity size) other → parity ≡ other)

-- What makes the media datagram a good definition.
use Rattle.std.specs.Prelude.{◌≡◌, ◌⊎◌, ◌<◌, ◌^◌, ℕ, List}
use Rattle.fg_words.specs.declared.Word.{Word}
use Rattle.fg_words.specs.Word.{IsMedia}
use Rattle.fg_rtp.specs.MediaDatagram.{IsMediaDatagram, media_bytes}

-- Bytes are a media datagram in at most one way.
abbrev pub ReadsOneWay : Type 0
ReadsOneWay = (bytes : List ℕ) (seq ssrc seq' ssrc' : ℕ) (word word' : Word) →
    IsMediaDatagram bytes seq ssrc word → IsMediaDatagram bytes seq' ssrc' word' →
    (seq ≡ seq') × (ssrc ≡ ssrc') × (word ≡ word')

-- The word of a media datagram is a media word.
abbrev pub ReadsMediaWords : Type 0
ReadsMediaWords = (bytes : List ℕ) (seq ssrc : ℕ) (word : Word) → IsMediaDatagram bytes seq ssrc word → IsMedia word

-- Bytes are a media datagram, or they are none.
abbrev pub MediaIsDecided : Type 0
MediaIsDecided = (bytes : List ℕ) →
    ((seq : ℕ) × (ssrc : ℕ) × (word : Word) × IsMediaDatagram bytes seq ssrc word)
    ⊎ ((seq ssrc : ℕ) (word : Word) → ¬ IsMediaDatagram bytes seq ssrc word)

-- What is written for a media word is a media datagram of it, and is read as nothing else.
abbrev pub WrittenIsRead : Type 0
WrittenIsRead = (seq ssrc : ℕ) (word : Word) → seq < 2 ^ 16 → word.ts < 2 ^ 32 → ssrc < 2 ^ 32 → IsMedia word →
    IsMediaDatagram (media_bytes seq ssrc word) seq ssrc word
    × ((seq' ssrc' : ℕ) (word' : Word) → IsMediaDatagram (media_bytes seq ssrc word) seq' ssrc' word' →
    (seq ≡ seq') × (ssrc ≡ ssrc') × (word ≡ word'))

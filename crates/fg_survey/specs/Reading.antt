-- What a record's datagram is, on whatever port: a media datagram (SMPTE ST 2022-2), else a parity datagram (SMPTE ST 2022-1),
-- else something other.
use Rattle.std.specs.Prelude.{◌≡◌, ℕ, List}
use Rattle.fg_words.specs.declared.Word.{Word}
use Rattle.fg_rtp.specs.MediaDatagram.{IsMediaDatagram}
use Rattle.fg_fechead.specs.declared.Parity.{Parity as ParityRead}
use Rattle.fg_fechead.specs.ParityDatagram.{IsParityDatagram}
use Rattle.fg_survey.specs.declared.reading.Reading.{Reading}
use Rattle.fg_survey.specs.declared.reading.Reading.TheVariants.{Media, Parity, Other}

-- A media datagram with these numbers.
pub record IsMedia (bytes : List ℕ) (seq ts ssrc : ℕ) : Type 0 where
  pub word : Word
  pub datagram : IsMediaDatagram bytes seq ssrc word
  pub ts_is : ts ≡ word.ts

abbrev pub NoMedia : List ℕ → Type 0
NoMedia bytes = (seq ssrc : ℕ) (word : Word) → ¬ IsMediaDatagram bytes seq ssrc word

-- A parity datagram of this base, offset and number.
pub record IsParity (bytes : List ℕ) (base offset number : ℕ) : Type 0 where
  pub no_media : NoMedia bytes
  pub parity : ParityRead
  pub datagram : IsParityDatagram bytes parity
  pub base_is : base ≡ parity.base
  pub offset_is : offset ≡ parity.shape.offset
  pub number_is : number ≡ parity.shape.na

-- Neither.
pub record IsOther (bytes : List ℕ) : Type 0 where
  pub no_media : NoMedia bytes
  pub no_parity : (parity : ParityRead) → ¬ IsParityDatagram bytes parity

abbrev pub IsReading : List ℕ → Reading → Type 0
IsReading bytes (Media seq ts ssrc) = IsMedia bytes seq ts ssrc
IsReading bytes (Parity base offset number) = IsParity bytes base offset number
IsReading bytes Other = IsOther bytes

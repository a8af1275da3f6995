-- What a record's datagram is read as. The datagrams are those of SMPTE ST 2022-2 and SMPTE ST 2022-1; that the port says
-- which of them a record carries, and how refused ones are told, is this project's own.
use Rattle.std.specs.Prelude.{◌≡◌, ℕ, List}
use Rattle.fg_words.specs.declared.Word.{Word}
use Rattle.fg_rtp.specs.declared.media.MediaFault.{MediaFault}
use Rattle.fg_rtp.specs.MediaDatagram.{IsMediaDatagram, FirstFault as FirstMediaFault}
use Rattle.fg_fechead.specs.declared.FecFault.{FecFault}
use Rattle.fg_fechead.specs.declared.Parity.{Parity as ParityRead}
use Rattle.fg_fechead.specs.ParityDatagram.{IsParityDatagram, FirstFault as FirstFecFault}
use Rattle.fg_shape.specs.declared.kind.Kind.{Kind}
use Rattle.fg_shape.specs.declared.kind.Kind.TheVariants as kind
use Rattle.fg_flows.specs.Flows.{IsPortOf}
use Rattle.fg_inspect.specs.declared.reading.Reading.{Reading}
use Rattle.fg_inspect.specs.declared.reading.Reading.TheVariants.{Media, NoMedia, Parity, NoParity, Other}

-- The bytes are a media datagram with this sequence number and so many bytes of payload.
pub record IsMedia (bytes : List ℕ) (seq len : ℕ) : Type 0 where
  pub ssrc : ℕ
  pub word : Word
  pub datagram : IsMediaDatagram bytes seq ssrc word
  pub size : len ≡ word.len

-- They are none, and this is the first rule of one that they break.
pub record IsNoMedia (bytes : List ℕ) (fault : MediaFault) : Type 0 where
  pub none : (seq ssrc : ℕ) (word : Word) → ¬ IsMediaDatagram bytes seq ssrc word
  pub first : FirstMediaFault fault bytes

-- The bytes are a parity datagram, which protects as many datagrams as `na` says from the sequence number `base` on, each
-- so far from the one before as `offset` says.
pub record IsParity (bytes : List ℕ) (base offset na : ℕ) : Type 0 where
  pub parity : ParityRead
  pub datagram : IsParityDatagram bytes parity
  pub base_is : base ≡ parity.base
  pub offset_is : offset ≡ parity.shape.offset
  pub na_is : na ≡ parity.shape.na

-- They are none, and this is the first rule of one that they break.
pub record IsNoParity (bytes : List ℕ) (fault : FecFault) : Type 0 where
  pub none : (parity : ParityRead) → ¬ IsParityDatagram bytes parity
  pub first : FirstFecFault fault bytes

-- A datagram on a media port is read so.
abbrev pub IsReadAsMedia : List ℕ → Reading → Type 0
IsReadAsMedia bytes (Media seq len) = IsMedia bytes seq len
IsReadAsMedia bytes (NoMedia fault) = IsNoMedia bytes fault
IsReadAsMedia bytes _ = ⊥

-- And on a parity port of this kind, whichever kind the datagram itself names.
abbrev pub IsReadAsParity : Kind → List ℕ → Reading → Type 0
IsReadAsParity kind bytes (Parity by base offset na) = (by ≡ kind) × IsParity bytes base offset na
IsReadAsParity kind bytes (NoParity by fault) = (by ≡ kind) × IsNoParity bytes fault
IsReadAsParity kind bytes _ = ⊥

-- A datagram on a port is read as what the port carries.
abbrev pub IsReadAs : Kind → List ℕ → Reading → Type 0
IsReadAs kind.Media bytes reading = IsReadAsMedia bytes reading
IsReadAs kind.Column bytes reading = IsReadAsParity kind.Column bytes reading
IsReadAs kind.Row bytes reading = IsReadAsParity kind.Row bytes reading

-- The port is one of this kind, of some flow.
abbrev pub Carries : List ℕ → ℕ → Kind → Type 0
Carries flows port kind = (i : ℕ) × IsPortOf flows port i kind

-- A datagram on the port is read so, where these are the flows. On a port of no flow it isn't looked at.
abbrev pub IsReading : List ℕ → ℕ → List ℕ → Reading → Type 0
IsReading flows port bytes Other = (kind : Kind) → ¬ Carries flows port kind
IsReading flows port bytes reading = (kind : Kind) × Carries flows port kind × IsReadAs kind bytes reading

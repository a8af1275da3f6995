-- The records of an encoding are read as what they were written for, and as nothing else.
use Rattle.std.proofs.Common.{◌≡◌, ℕ, ◌+◌, ◌<◌, ◌≤◌, ◌%◌, ◌^◌, Bool, true, false, List, ◌∷◌, ◌++◌, length, refl, sym, ap, subst, ◌∙◌, arith, lit<}
use Rattle.std.specs.Int.{to_be_bytes, w16, w32}
use Rattle.std.proofs.lemmas.Nat.{mod_below}
use Rattle.fg_words.specs.declared.Word.{Word}
use Rattle.fg_shape.specs.declared.Shape.{Shape}
use Rattle.fg_shape.specs.declared.encoding.Settings.{Settings}
use Rattle.fg_shape.specs.Shape.{slots_of, IsShape}
use Rattle.fg_rtp.specs.MediaDatagram.{IsMediaDatagram, media_bytes, payload_of}
use Rattle.fg_rtp.specs.Laws.{WrittenIsRead as MediaWrittenIsRead}
use Rattle.fg_fechead.specs.declared.Parity.{Parity as ParityRead}
use Rattle.fg_fechead.specs.ParityDatagram.{IsParityDatagram, parity_bytes}
use Rattle.fg_fechead.specs.Laws.{WrittenIsRead as ParityWrittenIsRead}
use Rattle.fg_shape.specs.declared.kind.Kind.{Kind}
use Rattle.fg_shape.specs.declared.kind.Kind.TheVariants as kind
use Rattle.fg_shape.specs.Kind.{port_of}
use Rattle.fg_trace.specs.Trace.{Record}
use Rattle.fg_playout.specs.Run.{Arrival, carries, protects, refused, time_of}
use Rattle.fg_encode.specs.Encoding.{bits_before, column_record, column_shape, longest, media_record, parity_at, row_record, row_shape, sequence_of, timestamp_of, word_at}
use Rattle.fg_encode.specs.Ends.{columns_before, rows_before}
use Rattle.fg_encode.specs.Payloads.{ArePayloads}
use Rattle.fg_results.specs.Flow.{Arrives, IsReadAs, IsReadAsParity, parity_of}
use Rattle.fg_drill.specs.Sent.{source_sent}
use Rattle.fg_drill.proofs.Written.{low_bytes, parity_can_be_written, sum_len, sum_room, sum_ts, time_is_small, word_is_media}

-- The kind of a port

pub on_media : (flow : ℕ) (k : Kind) (bytes : List ℕ) (a : Arrival) → port_of flow k ≡ flow → IsReadAs k bytes a → IsReadAs kind.Media bytes a
on_media flow kind.Media bytes a on read = read
on_media flow kind.Column bytes a on read = absurd (omega (arith, on))
on_media flow kind.Row bytes a on read = absurd (omega (arith, on))

pub on_column : (flow : ℕ) (k : Kind) (bytes : List ℕ) (a : Arrival) → port_of flow k ≡ flow + 2 → IsReadAs k bytes a → IsReadAs kind.Column bytes a
on_column flow kind.Media bytes a on read = absurd (omega (arith, on))
on_column flow kind.Column bytes a on read = read
on_column flow kind.Row bytes a on read = absurd (omega (arith, on))

pub on_row : (flow : ℕ) (k : Kind) (bytes : List ℕ) (a : Arrival) → port_of flow k ≡ flow + 4 → IsReadAs k bytes a → IsReadAs kind.Row bytes a
on_row flow kind.Media bytes a on read = absurd (omega (arith, on))
on_row flow kind.Column bytes a on read = absurd (omega (arith, on))
on_row flow kind.Row bytes a on read = read

-- One reading

pub read_as_media :
    (bytes : List ℕ) (time seq ssrc : ℕ) (word : Word) → IsMediaDatagram bytes seq ssrc word
    → ((seq' ssrc' : ℕ) (word' : Word) → IsMediaDatagram bytes seq' ssrc' word' → (seq ≡ seq') × (ssrc ≡ ssrc') × (word ≡ word'))
    → (a : Arrival) → time_of a ≡ time → IsReadAs kind.Media bytes a → a ≡ carries time seq ssrc word
read_as_media bytes time seq ssrc word is one (carries time' seq' ssrc' word') at read =
    let same = one seq' ssrc' word' read in
    λ i. carries (at i) (sym same.0 i) (sym same.1 i) (sym same.2 i)
read_as_media bytes time seq ssrc word is one (protects time' by parity) at read = absurd read
read_as_media bytes time seq ssrc word is one (refused time' by) at read = absurd (read.1 seq ssrc word is)

pub read_as_parity :
    (by : Kind) (bytes : List ℕ) (time : ℕ) (p : ParityRead) → IsParityDatagram bytes p
    → ((other : ParityRead) → IsParityDatagram bytes other → p ≡ other)
    → (a : Arrival) → time_of a ≡ time → IsReadAsParity by bytes a → a ≡ protects time by (parity_of p)
read_as_parity by bytes time p is one (carries time' seq ssrc word) at read = absurd read
read_as_parity by bytes time p is one (protects time' other parity) at read =
    let same : parity ≡ parity_of p = read.1.2 ∙ ap parity_of (sym (one read.1.0 read.1.1)) in
    λ i. protects (at i) (read.0 i) (same i)
read_as_parity by bytes time p is one (refused time' other) at read = absurd (read.1 p is)

module _ (settings : Settings) (payloads : List (List ℕ)) (most : settings.packets ≤ 7) (are : ArePayloads settings.packets payloads) where
  number_is_small : (slot : ℕ) → sequence_of settings slot < 2 ^ 16
  number_is_small slot = mod_below (settings.seq + slot) (2 ^ 16) (lit< tt)

  -- A media record is a media datagram of its slot's number and word. Of the source's number the lowest four bytes are
  -- written.
  media_is_written :
      MediaWrittenIsRead → (slot : ℕ) → slot < length payloads
      → let seq : ℕ = sequence_of settings slot in let word : Word = word_at settings payloads slot in
      IsMediaDatagram (media_bytes seq settings.ssrc word) seq (source_sent settings) word
      × ((seq' ssrc' : ℕ) (word' : Word) → IsMediaDatagram (media_bytes seq settings.ssrc word) seq' ssrc' word'
      → (seq ≡ seq') × (source_sent settings ≡ ssrc') × (word ≡ word'))
  media_is_written law slot below =
      let seq : ℕ = sequence_of settings slot in
      let word : Word = word_at settings payloads slot in
      let ssrc : ℕ = source_sent settings in
      let same : media_bytes seq ssrc word ≡ media_bytes seq settings.ssrc word =
      ap (λ (source : List ℕ). 0x80 ∷ 33 ∷ (to_be_bytes w16 seq ++ to_be_bytes w32 word.ts ++ source) ++ payload_of word) (low_bytes settings.ssrc) in
      subst (λ (bytes : List ℕ). IsMediaDatagram bytes seq ssrc word
      × ((seq' ssrc' : ℕ) (word' : Word) → IsMediaDatagram bytes seq' ssrc' word' → (seq ≡ seq') × (ssrc ≡ ssrc') × (word ≡ word')))
      same
      (law seq ssrc word (number_is_small slot) (time_is_small settings payloads slot) (mod_below settings.ssrc (2 ^ 32) (lit< tt))
      (word_is_media settings payloads most are slot below))

  -- What it arrives as.
  abbrev pub media_arrival : ℕ → Arrival
  media_arrival slot =
      carries (media_record settings payloads slot).time (sequence_of settings slot) (source_sent settings)
      (word_at settings payloads slot)

  -- So it is read, and as nothing else.
  pub media_can_arrive :
      MediaWrittenIsRead → (slot : ℕ) → slot < length payloads
      → Arrives settings.port (media_record settings payloads slot) (media_arrival slot)
  media_can_arrive law slot below = (kind.Media, refl, (media_is_written law slot below).0, refl)

  pub media_arrives :
      MediaWrittenIsRead → (slot : ℕ) → slot < length payloads → (a : Arrival)
      → Arrives settings.port (media_record settings payloads slot) a → a ≡ media_arrival slot
  media_arrives law slot below a arrives =
      let seq : ℕ = sequence_of settings slot in
      let word : Word = word_at settings payloads slot in
      let bytes : List ℕ = media_bytes seq settings.ssrc word in
      let written = media_is_written law slot below in
      read_as_media bytes (media_record settings payloads slot).time seq (source_sent settings) word written.0 written.1 a arrives.3
      (on_media settings.port arrives.0 bytes a arrives.1 arrives.2)

  -- A record of parity is a parity datagram of the parity of its equation.
  parity_is_written :
      ParityWrittenIsRead → (slot base number : ℕ) (shape : Shape) (row : Bool) → IsShape shape.offset shape.na → base < length payloads
      → let parity : ParityRead = parity_at settings payloads base shape row in
      let bytes : List ℕ = parity_bytes (number % 2 ^ 16) (timestamp_of settings (bits_before payloads slot)) parity
      (longest payloads (slots_of base shape.offset shape.na)) in
      IsParityDatagram bytes parity × ((other : ParityRead) → IsParityDatagram bytes other → parity ≡ other)
  parity_is_written law slot base number shape row read below =
      let slots : List ℕ = slots_of base shape.offset shape.na in
      law (number % 2 ^ 16) (timestamp_of settings (bits_before payloads slot)) (parity_at settings payloads base shape row) (longest payloads slots)
      (parity_can_be_written settings payloads most are base shape row read below) (number_is_small base)
      (sum_len settings payloads most are slots) (sum_ts settings payloads most are slots) (sum_room settings payloads most are slots)

  -- What a column and a row arrive as.
  abbrev pub column_arrival : ℕ → ℕ → Arrival
  column_arrival slot base =
      protects (column_record settings payloads slot base).time kind.Column
      (parity_of (parity_at settings payloads base (column_shape settings.layout) false))

  abbrev pub row_arrival : ℕ → ℕ → Arrival
  row_arrival slot base =
      protects (row_record settings payloads slot base).time kind.Row
      (parity_of (parity_at settings payloads base (row_shape settings.layout) true))

  pub column_can_arrive :
      ParityWrittenIsRead → (slot base : ℕ) → IsShape settings.layout.l settings.layout.d → base < length payloads
      → Arrives settings.port (column_record settings payloads slot base) (column_arrival slot base)
  column_can_arrive law slot base read below =
      let shape : Shape = column_shape settings.layout in
      let written = parity_is_written law slot base (columns_before settings.layout slot) shape false read below in
      (kind.Column, refl, (refl, (parity_at settings payloads base shape false, written.0, refl)), refl)

  pub row_can_arrive :
      ParityWrittenIsRead → (slot base : ℕ) → IsShape 1 settings.layout.l → base < length payloads
      → Arrives settings.port (row_record settings payloads slot base) (row_arrival slot base)
  row_can_arrive law slot base read below =
      let shape : Shape = row_shape settings.layout in
      let written = parity_is_written law slot base (rows_before settings.layout slot) shape true read below in
      (kind.Row, refl, (refl, (parity_at settings payloads base shape true, written.0, refl)), refl)

  pub column_arrives :
      ParityWrittenIsRead → (slot base : ℕ) → IsShape settings.layout.l settings.layout.d → base < length payloads → (a : Arrival)
      → Arrives settings.port (column_record settings payloads slot base) a → a ≡ column_arrival slot base
  column_arrives law slot base read below a arrives =
      let r : Record = column_record settings payloads slot base in
      let written = parity_is_written law slot base (columns_before settings.layout slot) (column_shape settings.layout) false read below in
      read_as_parity kind.Column r.datagram r.time _ written.0 written.1 a arrives.3 (on_column settings.port arrives.0 r.datagram a arrives.1 arrives.2)

  pub row_arrives :
      ParityWrittenIsRead → (slot base : ℕ) → IsShape 1 settings.layout.l → base < length payloads → (a : Arrival)
      → Arrives settings.port (row_record settings payloads slot base) a → a ≡ row_arrival slot base
  row_arrives law slot base read below a arrives =
      let r : Record = row_record settings payloads slot base in
      let written = parity_is_written law slot base (rows_before settings.layout slot) (row_shape settings.layout) true read below in
      read_as_parity kind.Row r.datagram r.time _ written.0 written.1 a arrives.3 (on_row settings.port arrives.0 r.datagram a arrives.1 arrives.2)

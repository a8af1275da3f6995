-- The encoding: which timed datagrams a stream is sent as. The stream is cut into payloads, of which payload i is that of
-- slot i. Media datagrams are those of RFC 3550, RFC 2250 and SMPTE ST 2022-2, parity datagrams those of SMPTE ST 2022-1.
-- The clock and the numbers are this project's own.
use Rattle.std.specs.Prelude.{ℕ, ◌+◌, ◌*◌, ◌/◌, ◌%◌, ◌^◌, Bool, true, false, List, [], ◌∷◌, ◌++◌, length, map, max, take, get_or}
use Rattle.std.specs.List.{flat_map, range_with_len, sum_by}
use Rattle.fg_words.specs.declared.Word.{Word}
use Rattle.fg_words.specs.Word.{transport_word, word_sum}
use Rattle.fg_shape.specs.declared.Shape.{Shape}
use Rattle.fg_shape.specs.declared.layouts.Layout.{Layout}
use Rattle.fg_shape.specs.declared.encoding.Settings.{Settings}
use Rattle.fg_shape.specs.declared.kind.Kind.{Kind}
use Rattle.fg_shape.specs.declared.kind.Kind.TheVariants.{Media, Column, Row}
use Rattle.fg_shape.specs.Kind.{port_of}
use Rattle.fg_shape.specs.Shape.{slots_of}
use Rattle.fg_rtp.specs.MediaDatagram.{media_bytes}
use Rattle.fg_fechead.specs.declared.Parity.{Parity}
use Rattle.fg_fechead.specs.ParityDatagram.{parity_bytes}
use Rattle.fg_trace.specs.Trace.{Record}
use Rattle.fg_encode.specs.Ends.{columns_ending, columns_before, rows_ending, rows_before}

-- The bits of the stream before a slot's payload.
abbrev pub bits_before : List (List ℕ) → ℕ → ℕ
bits_before payloads slot = 8 * sum_by (λ payload. length payload) (take slot payloads)

-- The time of a datagram before which so many bits were sent, in microseconds from the stream's beginning; its RTP
-- timestamp, in units of 1/90,000 of a second; and the sequence number of a slot.
abbrev pub time_of : Settings → ℕ → ℕ
time_of settings bits = bits * 1000000 / settings.rate

abbrev pub timestamp_of : Settings → ℕ → ℕ
timestamp_of settings bits = (settings.stamp + bits * 90000 / settings.rate) % 2 ^ 32

abbrev pub sequence_of : Settings → ℕ → ℕ
sequence_of settings slot = (settings.seq + slot) % 2 ^ 16

abbrev pub payload_at : List (List ℕ) → ℕ → List ℕ
payload_at payloads slot = get_or payloads slot []

-- The word of a slot.
abbrev pub word_at : Settings → List (List ℕ) → ℕ → Word
word_at settings payloads slot =
    transport_word (timestamp_of settings (bits_before payloads slot)) (payload_at payloads slot)

-- A parity with this base, shape and kind, of the words at these slots.
abbrev pub parity_over : Settings → (ℕ → Word) → ℕ → Shape → Bool → List ℕ → Parity
parity_over settings words base shape row slots = record {
  base = sequence_of settings base;
  shape = shape;
  row = row;
  word = word_sum (map words slots);
}

abbrev pub media_record : Settings → List (List ℕ) → ℕ → Record
media_record settings payloads slot = record {
  time = time_of settings (bits_before payloads slot);
  port = port_of settings.port Media;
  datagram = media_bytes (sequence_of settings slot) settings.ssrc (word_at settings payloads slot);
}

-- The parity of an equation: the sum of the words at its slots, all at once.
abbrev pub parity_at : Settings → List (List ℕ) → ℕ → Shape → Bool → Parity
parity_at settings payloads base shape row =
    parity_over settings (word_at settings payloads) base shape row (slots_of base shape.offset shape.na)

-- How long the longest of the payloads at these slots is.
abbrev pub longest : List (List ℕ) → List ℕ → ℕ
longest payloads [] = 0
longest payloads (slot ∷ slots) = max (length (payload_at payloads slot)) (longest payloads slots)

-- The parity datagram of an equation that ends at this slot, of this kind and with this number in its stream. It has the time
-- and the timestamp of the slot's media datagram.
abbrev pub parity_record : Settings → List (List ℕ) → ℕ → Kind → ℕ → Shape → Bool → ℕ → Record
parity_record settings payloads slot kind number shape row base = record {
  time = time_of settings (bits_before payloads slot);
  port = port_of settings.port kind;
  datagram =
      parity_bytes (number % 2 ^ 16) (timestamp_of settings (bits_before payloads slot))
      (parity_at settings payloads base shape row) (longest payloads (slots_of base shape.offset shape.na));
}

-- A column has every l-th slot, d of them, and a row l slots one after another.
abbrev pub column_shape : Layout → Shape
column_shape layout = record { offset = layout.l; na = layout.d }

abbrev pub row_shape : Layout → Shape
row_shape layout = record { offset = 1; na = layout.l }

abbrev pub column_record : Settings → List (List ℕ) → ℕ → ℕ → Record
column_record settings payloads slot =
    parity_record settings payloads slot Column (columns_before settings.layout slot) (column_shape settings.layout) false

abbrev pub row_record : Settings → List (List ℕ) → ℕ → ℕ → Record
row_record settings payloads slot =
    parity_record settings payloads slot Row (rows_before settings.layout slot) (row_shape settings.layout) true

-- What is sent for a slot: its media datagram, then the column that ends there, then the row.
abbrev pub records_at : Settings → List (List ℕ) → ℕ → List Record
records_at settings payloads slot =
    media_record settings payloads slot
    ∷ map (column_record settings payloads slot) (columns_ending settings.layout slot)
    ++ map (row_record settings payloads slot) (rows_ending settings.layout slot)

-- What a stream is sent as: what is sent for each slot.
abbrev pub encoding : Settings → List (List ℕ) → List Record
encoding settings payloads = flat_map (records_at settings payloads) (range_with_len 0 (length payloads))

-- The fixed header of RTP (RFC 3550, section 5.1): twelve bytes before the sources, an extension and the payload.
--
--     byte 0       version (2 bits), padding (1), extension (1), number of contributing sources (4)
--     byte 1       marker (1), payload type (7)
--     bytes 2-3    sequence number
--     bytes 4-7    timestamp
--     bytes 8-11   synchronization source
use Rattle.std.specs.Prelude.{ℕ, ◌/◌, ◌%◌, ◌==◌, List, ◌∷◌, ◌++◌, slice_index, slice_range}
use Rattle.std.specs.Int.{from_be_bytes, to_be_bytes, w16, w32}
use Rattle.fg_rtp.specs.declared.Rtp.{Rtp}

-- The bytes of the fixed header.
abbrev pub header_length : ℕ
header_length = 12

-- The version that a header's first byte names.
abbrev pub version : List ℕ → ℕ
version bytes = slice_index bytes 0 / 64

-- The other fields. Numbers have their highest byte first.
abbrev pub header : List ℕ → Rtp
header bytes = record {
  padding = (slice_index bytes 0 / 32 % 2) == 1;
  extension = (slice_index bytes 0 / 16 % 2) == 1;
  sources = slice_index bytes 0 % 16;
  marker = (slice_index bytes 1 / 128) == 1;
  pt = slice_index bytes 1 % 128;
  seq = from_be_bytes w16 (slice_range bytes 2 4);
  ts = from_be_bytes w32 (slice_range bytes 4 8);
  ssrc = from_be_bytes w32 (slice_range bytes 8 12);
}

-- The header that is written, of this payload type, sequence number, timestamp and source: version 2, with no padding,
-- no extension and no contributing source, and marker 0.
abbrev pub plain_header : ℕ → ℕ → ℕ → ℕ → List ℕ
plain_header pt seq ts ssrc = 0x80 ∷ pt ∷ (to_be_bytes w16 seq ++ to_be_bytes w32 ts ++ to_be_bytes w32 ssrc)

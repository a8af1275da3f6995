-- The FEC header of SMPTE ST 2022-1 (from Pro-MPEG Code of Practice 3): sixteen bytes between the RTP header of a parity
-- datagram and its payload. Numbers have their highest byte first.
--
--     bytes 0-1    SNBase low bits: the first protected sequence number
--     bytes 2-3    length recovery
--     byte 4       E (1 bit), PT recovery (7)
--     bytes 5-7    mask
--     bytes 8-11   TS recovery
--     byte 12      X (1 bit), D: 0 for a column, 1 for a row (1), type: 0 for XOR (3), index (3)
--     byte 13      offset
--     byte 14      NA, the number of protected datagrams
--     byte 15      SNBase ext bits
use Rattle.std.specs.Prelude.{◌≡◌, ℕ, ◌+◌, ◌-◌, ◌/◌, ◌%◌, ◌==◌, Bool, true, false, List, [], ◌∷◌, ◌++◌, length, replicate, slice_index, slice_range}
use Rattle.std.specs.Int.{from_be_bytes, to_be_bytes, w16, w32}
use Rattle.fg_shape.specs.Shape.{IsShape}
use Rattle.fg_words.specs.declared.Word.{Word}
use Rattle.fg_words.specs.Word.{padded_word, payload_limit}
use Rattle.fg_fechead.specs.declared.Parity.{Parity}
use Rattle.fg_fechead.specs.declared.ParityHeader.{ParityHeader}

-- The bytes of the FEC header.
abbrev pub fec_header_length : ℕ
fec_header_length = 16

-- D, in its byte.
abbrev pub row_bit : Bool → ℕ
row_bit true = 64
row_bit false = 0

-- The header of a parity, with E 1 and X, type and index 0. The mask and the ext bits say nothing of the parity.
abbrev pub header_of : Parity → List ℕ → ℕ → List ℕ
header_of parity mask ext_bits =
    to_be_bytes w16 parity.base ++ to_be_bytes w16 parity.word.len
    ++ (128 + parity.word.pt) ∷ mask ++ to_be_bytes w32 parity.word.ts
    ++ row_bit parity.row ∷ parity.shape.offset ∷ parity.shape.na ∷ ext_bits ∷ []

-- The parity of a header and the payload after it. The word's bytes are the payload, padded with zeros.
abbrev pub parity_in : List ℕ → List ℕ → Parity
parity_in header payload = record {
  base = from_be_bytes w16 (slice_range header 0 2);
  shape = record { offset = slice_index header 13; na = slice_index header 14 };
  row = (slice_index header 12 / 64 % 2) == 1;
  word = record {
    pt = slice_index header 4 % 128;
    ts = from_be_bytes w32 (slice_range header 8 12);
    len = from_be_bytes w16 (slice_range header 2 4);
    bytes = payload ++ replicate (payload_limit - length payload) 0;
  };
}

-- The parity of what a header says and a word.
abbrev pub parity_from : ParityHeader → Word → Parity
parity_from header word = record { base = header.base; shape = header.shape; row = header.row; word = word }

-- And where the word is that of a payload.
abbrev pub parity_with : ParityHeader → List ℕ → Parity
parity_with header payload = parity_from header (padded_word header.pt header.ts header.len payload)

-- What a header keeps that is read.

-- E is 1.
abbrev pub IsExtended : List ℕ → Type 0
IsExtended header = slice_index header 4 / 128 ≡ 1

-- X, type and index are 0.
abbrev pub IsPlainXor : List ℕ → Type 0
IsPlainXor header =
    let byte = slice_index header 12 in
    (byte / 128 ≡ 0) × (byte / 8 % 8 ≡ 0) × (byte % 8 ≡ 0)

abbrev pub HasShape : List ℕ → Type 0
HasShape header = IsShape (slice_index header 13) (slice_index header 14)

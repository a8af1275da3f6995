-- Parity datagrams (SMPTE ST 2022-1): an RTP header, a FEC header and a payload. The limits of the shape and of the
-- payload are this project's profile.
use Rattle.std.specs.Prelude.{◌≡◌, ℕ, ◌+◌, ◌<◌, ◌≤◌, ◌^◌, List, [], ◌∷◌, ◌++◌, length, take, slice_index, slice_range}
use Rattle.fg_words.specs.Word.{payload_limit, HasRoom}
use Rattle.fg_shape.specs.Shape.{IsShape}
use Rattle.fg_rtp.specs.Header.{header_length, plain_header, version}
use Rattle.fg_fechead.specs.declared.FecFault.{FecFault}
use Rattle.fg_fechead.specs.declared.FecFault.TheVariants.{Short, Version, NoExtension, OtherFec, Shape, Size}
use Rattle.fg_fechead.specs.declared.Parity.{Parity}
use Rattle.fg_fechead.specs.FecHeader.{fec_header_length, header_of, IsExtended, IsPlainXor, HasShape}

-- The bytes of both headers.
abbrev pub headers_length : ℕ
headers_length = header_length + fec_header_length

-- These bytes are a parity datagram of this parity. Of the RTP header the version alone counts. The payload's size is no
-- part of the parity: its word has the payload's bytes and then zeros.
pub record IsParityDatagram (bytes : List ℕ) (parity : Parity) : Type 0 where
  -- these may be any
  pub rtp : List ℕ
  pub mask : List ℕ
  pub ext_bits : ℕ
  pub size : ℕ
  pub rtp_size : length rtp ≡ header_length
  pub rtp_version : version rtp ≡ 2
  pub mask_size : length mask ≡ 3
  pub some_payload : 1 ≤ size
  pub payload_limit : size ≤ payload_limit
  pub base_size : parity.base < 2 ^ 16
  pub len_size : parity.word.len < 2 ^ 16
  pub pt_size : parity.word.pt < 2 ^ 7
  pub ts_size : parity.word.ts < 2 ^ 32
  pub shape : IsShape parity.shape.offset parity.shape.na
  pub room : HasRoom parity.word
  pub padded : (i : ℕ) → size ≤ i → slice_index parity.word.bytes i ≡ 0
  pub spelled : bytes ≡ rtp ++ header_of parity mask ext_bits ++ take size parity.word.bytes

-- What is asked of a parity that is written with so many bytes of payload: there are no others in its word.
pub record CanBeWritten (parity : Parity) (size : ℕ) : Type 0 where
  pub shape : IsShape parity.shape.offset parity.shape.na
  pub pt_size : parity.word.pt < 2 ^ 7
  pub some_payload : 1 ≤ size
  pub payload_limit : size ≤ payload_limit
  pub padded : (i : ℕ) → size ≤ i → slice_index parity.word.bytes i ≡ 0

-- The bytes that are written for a parity: payload type 96, this sequence number and timestamp, and source 0; mask and
-- ext bits 0; and so many bytes of the word.
abbrev pub parity_bytes : ℕ → ℕ → Parity → ℕ → List ℕ
parity_bytes seq ts parity size =
    plain_header 96 seq ts 0 ++ header_of parity (0 ∷ 0 ∷ 0 ∷ []) 0 ++ take size parity.word.bytes

-- What a parity datagram keeps, one rule for each fault, in the order in which faults are named.

abbrev pub HasHeaders : List ℕ → Type 0
HasHeaders bytes = headers_length ≤ length bytes

abbrev pub IsVersionTwo : List ℕ → Type 0
IsVersionTwo bytes = version bytes ≡ 2

-- The FEC header in a datagram.
abbrev pub header_in : List ℕ → List ℕ
header_in bytes = slice_range bytes header_length headers_length

-- The payload has 1 to 1,316 bytes.
abbrev pub HasPayload : List ℕ → Type 0
HasPayload bytes = (headers_length + 1 ≤ length bytes) × (length bytes ≤ headers_length + payload_limit)

-- The fault's rule is the first that the bytes break.
abbrev pub FirstFault : FecFault → List ℕ → Type 0
FirstFault Short bytes = ¬ HasHeaders bytes
FirstFault Version bytes = HasHeaders bytes × (¬ IsVersionTwo bytes)
FirstFault NoExtension bytes = HasHeaders bytes × IsVersionTwo bytes × (¬ IsExtended (header_in bytes))
FirstFault OtherFec bytes =
    HasHeaders bytes × IsVersionTwo bytes × IsExtended (header_in bytes) × (¬ IsPlainXor (header_in bytes))
FirstFault Shape bytes =
    HasHeaders bytes × IsVersionTwo bytes × IsExtended (header_in bytes) × IsPlainXor (header_in bytes)
    × (¬ HasShape (header_in bytes))
FirstFault Size bytes =
    HasHeaders bytes × IsVersionTwo bytes × IsExtended (header_in bytes) × IsPlainXor (header_in bytes)
    × HasShape (header_in bytes) × (¬ HasPayload bytes)

-- Media datagrams: transport packets in RTP (RFC 3550, RFC 2250, RFC 3551, SMPTE ST 2022-2). The plain header,
-- without padding, an extension or contributing sources, and at most seven packets are this project's profile.
use Rattle.std.specs.Prelude.{◌≡◌, ℕ, ◌+◌, ◌*◌, ◌<◌, ◌≤◌, ◌^◌, false, List, ◌∷◌, ◌++◌, take, length, slice_index}
use Rattle.std.specs.Int.{to_be_bytes, w16, w32}
use Rattle.fg_words.specs.declared.Word.{Word}
use Rattle.fg_ts.specs.Packets.{packet_length, sync_byte}
use Rattle.fg_words.specs.Word.{packets_limit, transport_type, IsMedia}
use Rattle.fg_rtp.specs.declared.RtpFault.{RtpFault}
use Rattle.fg_rtp.specs.declared.RtpFault.TheVariants.{Short as NoHeader, Version as OtherVersion}
use Rattle.fg_rtp.specs.declared.media.MediaFault.{MediaFault}
use Rattle.fg_rtp.specs.declared.media.MediaFault.TheVariants.{Short, Version, Flags, PayloadType, Size, NoSync}
use Rattle.fg_rtp.specs.Header.{version, header, header_length, plain_header}

-- The payload of a word: as many of its bytes as its length says.
abbrev pub payload_of : Word → List ℕ
payload_of word = take word.len word.bytes

-- These bytes are a media datagram with this sequence number, synchronization source and word.
pub record IsMediaDatagram (bytes : List ℕ) (seq ssrc : ℕ) (word : Word) : Type 0 where
  pub marker : ℕ
  pub marker_bit : marker < 2
  pub seq_size : seq < 2 ^ 16
  pub ts_size : word.ts < 2 ^ 32
  pub ssrc_size : ssrc < 2 ^ 32
  pub media : IsMedia word
  -- version 2 with no padding, extension or source; marker and payload type 33; the three numbers; the payload
  pub spelled : bytes ≡ 0x80 ∷ (128 * marker + transport_type)
      ∷ (to_be_bytes w16 seq ++ to_be_bytes w32 word.ts ++ to_be_bytes w32 ssrc ++ payload_of word)

-- The bytes that are written for a word: the marker is 0.
abbrev pub media_bytes : ℕ → ℕ → Word → List ℕ
media_bytes seq ssrc word = plain_header transport_type seq word.ts ssrc ++ payload_of word

-- What a media datagram keeps, one rule for each fault, in the order in which faults are named.

abbrev pub HasHeader : List ℕ → Type 0
HasHeader bytes = header_length ≤ length bytes

abbrev pub IsVersionTwo : List ℕ → Type 0
IsVersionTwo bytes = version bytes ≡ 2

-- Neither padding nor an extension nor a contributing source.
abbrev pub IsPlain : List ℕ → Type 0
IsPlain bytes = ((header bytes).padding ≡ false) × ((header bytes).extension ≡ false) × ((header bytes).sources ≡ 0)

abbrev pub IsTransport : List ℕ → Type 0
IsTransport bytes = (header bytes).pt ≡ transport_type

-- The payload is 1 to 7 whole packets.
abbrev pub HasPackets : List ℕ → Type 0
HasPackets bytes = (k : ℕ) × (1 ≤ k) × (k ≤ packets_limit) × (length bytes ≡ header_length + packet_length * k)

-- Each packet of the payload begins with the sync byte.
abbrev pub IsSynced : List ℕ → Type 0
IsSynced bytes = (i : ℕ) → header_length + packet_length * i < length bytes → slice_index bytes (header_length + packet_length * i) ≡ sync_byte

-- The fault's rule is the first that the bytes break.
abbrev pub FirstFault : MediaFault → List ℕ → Type 0
FirstFault Short bytes = ¬ HasHeader bytes
FirstFault Version bytes = HasHeader bytes × (¬ IsVersionTwo bytes)
FirstFault Flags bytes = HasHeader bytes × IsVersionTwo bytes × (¬ IsPlain bytes)
FirstFault PayloadType bytes = HasHeader bytes × IsVersionTwo bytes × IsPlain bytes × (¬ IsTransport bytes)
FirstFault Size bytes =
    HasHeader bytes × IsVersionTwo bytes × IsPlain bytes × IsTransport bytes × (¬ HasPackets bytes)
FirstFault NoSync bytes =
    HasHeader bytes × IsVersionTwo bytes × IsPlain bytes × IsTransport bytes × HasPackets bytes × (¬ IsSynced bytes)

-- A header's fault is the datagram's.
abbrev pub header_fault : RtpFault → MediaFault
header_fault NoHeader = Short
header_fault OtherVersion = Version

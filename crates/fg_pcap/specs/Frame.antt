-- Frames and the datagrams in them: Ethernet (IEEE 802.3, with at most one tag of IEEE 802.1Q), IPv4 (RFC 791) and UDP (RFC
-- 768). That other frames give no datagram, fragments and second tags among them, is this project's profile. Checksums
-- aren't tested.
use Rattle.std.specs.Prelude.{◌≡◌, ℕ, ◌+◌, ◌*◌, ◌/◌, ◌%◌, ◌≤◌, ◌^◌, ◌⊎◌, List, [], ◌∷◌, drop, length, slice_index, slice_range}
use Rattle.std.specs.Int.{from_be_bytes, w16}
use Rattle.fg_trace.specs.Trace.{Record}
use Rattle.fg_pcap.specs.declared.ending.CaptureEnding.{CaptureEnding}
use Rattle.fg_pcap.specs.Capture.{Frame, IsCapture}

-- The number of two bytes at a place, the highest first.
abbrev pub number_at : List ℕ → ℕ → ℕ
number_at bytes place = from_be_bytes w16 (slice_range bytes place (place + 2))

-- The two bytes at a place are these.
abbrev pub Has : List ℕ → ℕ → ℕ → ℕ → Type 0
Has bytes place first second = slice_range bytes place (place + 2) ≡ first ∷ second ∷ []

-- The frame carries IPv4 from this place on: behind an Ethernet header of 14 bytes with type 0800, or with type 8100, which
-- is a tag, and behind the tag's 4 bytes, of which the last two say type 0800.
abbrev pub CarriesIpv4 : List ℕ → ℕ → Type 0
CarriesIpv4 frame place =
    ((place ≡ 14) × Has frame 12 0x08 0x00)
    ⊎ ((place ≡ 18) × Has frame 12 0x81 0x00 × Has frame 16 0x08 0x00)

-- How many bytes an IPv4 header has: its first byte counts them by four, in its low half.
abbrev pub header_length : List ℕ → ℕ
header_length packet = slice_index packet 0 % 16 * 4

-- How many bytes the header and what it carries have. What stands behind them is padding.
abbrev pub total_length : List ℕ → ℕ
total_length packet = number_at packet 2

-- How many bytes the UDP header and its payload have.
abbrev pub udp_length : List ℕ → ℕ
udp_length packet = number_at packet (header_length packet + 4)

-- The bytes are an IPv4 packet that holds a whole UDP datagram to this port, with this payload.
pub record HoldsDatagram (packet : List ℕ) (port : ℕ) (payload : List ℕ) : Type 0 where
  pub version : slice_index packet 0 / 16 ≡ 4
  pub header : 20 ≤ header_length packet
  -- of flags and fragment offset: no more fragments, and offset 0
  pub no_fragment : number_at packet 6 % 2 ^ 14 ≡ 0
  pub protocol : slice_index packet 9 ≡ 17
  pub kept : total_length packet ≤ length packet
  pub udp_header : 8 ≤ udp_length packet
  pub udp_within : header_length packet + udp_length packet ≤ total_length packet
  pub port_is : port ≡ number_at packet (header_length packet + 2)
  pub payload_is : payload ≡ slice_range packet (header_length packet + 8) (header_length packet + udp_length packet)

-- The bytes that were kept of a frame give this datagram.
pub record GivesDatagram (frame : List ℕ) (port : ℕ) (payload : List ℕ) : Type 0 where
  pub place : ℕ
  pub carries : CarriesIpv4 frame place
  pub holds : HoldsDatagram (drop place frame) port payload

-- They give none.
abbrev pub GivesNone : List ℕ → Type 0
GivesNone frame = (port : ℕ) (payload : List ℕ) → ¬ GivesDatagram frame port payload

-- The first of these records is the datagram of the frame, and these are the others.
pub record Gives (frame : Frame) (records others : List Record) : Type 0 where
  pub port : ℕ
  pub payload : List ℕ
  pub gives : GivesDatagram frame.bytes port payload
  pub first : records ≡ record { time = frame.time; port = port; datagram = payload } ∷ others

-- These are the datagrams of the frames, in order; frames that give none are left out.
abbrev pub IsDatagramsOf : List Frame → List Record → Type 0
IsDatagramsOf [] records = records ≡ []
IsDatagramsOf (frame ∷ frames) records =
    ((others : List Record) × Gives frame records others × IsDatagramsOf frames others)
    ⊎ (GivesNone frame.bytes × IsDatagramsOf frames records)

-- The bytes, under a limit on their number, are a capture with this ending, and these are its datagrams.
pub record CapturedTrace (bytes : List ℕ) (max : ℕ) (records : List Record) (end : CaptureEnding) : Type 0 where
  pub frames : List Frame
  pub capture : IsCapture bytes max frames end
  pub datagrams : IsDatagramsOf frames records

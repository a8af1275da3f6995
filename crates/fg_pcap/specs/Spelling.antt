-- The bytes of a capture that is written: a classic pcap file (draft-ietf-opsawg-pcap) of version 2.4, with the highest byte
-- first and times in microseconds, whose records are UDP datagrams (RFC 768) over IPv4 (RFC 791) in Ethernet frames (IEEE
-- 802.3). The addresses, and that a datagram's port is written as both its ports, are this project's own.
use Rattle.std.specs.Prelude.{ℕ, ◌+◌, ◌/◌, ◌%◌, ◌<◌, ◌≤◌, ◌^◌, List, [], ◌∷◌, ◌++◌, length}
use Rattle.std.specs.List.{flat_map}
use Rattle.fg_trace.specs.Trace.{Record}
use Rattle.fg_pcap.specs.declared.file_header.ByteOrder.TheVariants.{HighestFirst}
use Rattle.fg_pcap.specs.declared.file_header.TimeUnit.TheVariants.{Microseconds}
use Rattle.fg_pcap.specs.Capture.{four_bytes, two_bytes, header_spelling, magic, most_kept}
use Rattle.fg_pcap.specs.Checksum.{checksum}

-- A number of two bytes, the highest first, and one of four.
abbrev pub two : ℕ → List ℕ
two n = two_bytes HighestFirst n

abbrev pub four : ℕ → List ℕ
four n = four_bytes HighestFirst n

-- The file header: the magic that says microseconds, version 2.4, zone 0, accuracy 0, the most bytes of a frame that a
-- record may keep, and link type 1, which is Ethernet.
unfoldable pub file_header : List ℕ
file_header = four (magic Microseconds) ++ two 2 ++ two 4 ++ four 0 ++ four 0 ++ four most_kept ++ four 1

-- The header of a record with this time in microseconds, whose frame has so many bytes: whole seconds, the microseconds
-- after them, the bytes that are kept, and the bytes that there were.
abbrev pub record_header : ℕ → ℕ → List ℕ
record_header time size = header_spelling HighestFirst (time / 10 ^ 6) (time % 10 ^ 6) size size

-- An Ethernet header: the frame's destination and source, and the type of IPv4.
abbrev pub ethernet_header : List ℕ
ethernet_header = 0x02 ∷ 0 ∷ 0 ∷ 0 ∷ 0 ∷ 0x02 ∷ 0x02 ∷ 0 ∷ 0 ∷ 0 ∷ 0 ∷ 0x01 ∷ 0x08 ∷ 0 ∷ []

-- An IPv4 header with this total length and this in the field of its checksum: version 4, five words of 32 bits, no special
-- service, identification 0, not to be fragmented, time to live 64, protocol UDP, from 10.0.0.1 to 10.0.0.2.
abbrev pub ipv4_header_with : ℕ → ℕ → List ℕ
ipv4_header_with total sum =
    (0x45 ∷ 0 ∷ []) ++ two total ++ (0 ∷ 0 ∷ 0x40 ∷ 0 ∷ 64 ∷ 17 ∷ []) ++ two sum
    ++ (10 ∷ 0 ∷ 0 ∷ 1 ∷ 10 ∷ 0 ∷ 0 ∷ 2 ∷ [])

-- Its checksum is that of the header with a zero in the checksum's place.
abbrev pub ipv4_checksum : ℕ → ℕ
ipv4_checksum total = checksum (ipv4_header_with total 0)

abbrev pub ipv4_header : ℕ → List ℕ
ipv4_header total = ipv4_header_with total (ipv4_checksum total)

-- A UDP header: the ports from and to which the datagram goes, the length with this header, and no checksum.
abbrev pub udp_header : ℕ → ℕ → List ℕ
udp_header port total = two port ++ two port ++ two total ++ (0 ∷ 0 ∷ [])

-- How many bytes these headers have.
abbrev pub udp_length : ℕ
udp_length = 8

abbrev pub ipv4_length : ℕ
ipv4_length = 20

abbrev pub ethernet_length : ℕ
ethernet_length = 14

-- What stands in a frame before a datagram of so many bytes.
abbrev pub frame_headers : ℕ → ℕ → List ℕ
frame_headers port size =
    ethernet_header ++ ipv4_header (ipv4_length + udp_length + size) ++ udp_header port (udp_length + size)

-- And in a record.
unfoldable pub headers : ℕ → ℕ → ℕ → List ℕ
headers time port size =
    record_header time (ethernet_length + ipv4_length + udp_length + size) ++ frame_headers port size

-- A datagram is spelled as the record of the frame that carries it.
abbrev pub spelling : Record → List ℕ
spelling r = headers r.time r.port (length r.datagram) ++ r.datagram

-- The bytes of a capture of these datagrams.
abbrev pub capture_of : List Record → List ℕ
capture_of records = file_header ++ flat_map spelling records

-- What a record of a capture can say of a datagram: its seconds have 32 bits, and the total length of IPv4 has 16.
abbrev pub seconds_end : ℕ
seconds_end = 4294967296000000

abbrev pub most_datagram : ℕ
most_datagram = 65507

pub record FitsCapture (r : Record) : Type 0 where
  pub time : r.time < seconds_end
  pub size : length r.datagram ≤ most_datagram

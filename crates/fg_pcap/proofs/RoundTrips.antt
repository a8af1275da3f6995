-- What is written is read back.
use Rattle.std.proofs.Common.{◌≡◌, inl, lit≤, ℕ, ◌+◌, ◌-◌, ◌*◌, ◌/◌, ◌%◌, ◌<◌, ◌≤◌, ◌^◌, List, [], ◌∷◌, ◌++◌, length, map, take, drop, refl, sym, ap, ◌∙◌, arith, append_assoc, append-nil, length-append}
use Rattle.std.specs.List.{flat_map, AllByRecursion}
use Rattle.std.specs.Int.{from_be_bytes, to_be_bytes, w16}
use Rattle.std.proofs.Math.Seq.{take-length}
use Rattle.std.proofs.lemmas.Nat.{from_be_bytes-to_be_bytes_2, div-add-mod'}
use Rattle.fg_trace.specs.Trace as trace
use Rattle.fg_trace.specs.Trace.{Record}
use Rattle.fg_pcap.specs.declared.file_header.ByteOrder.TheVariants.{HighestFirst}
use Rattle.fg_pcap.specs.declared.file_header.TimeUnit.TheVariants.{Microseconds}
use Rattle.fg_pcap.specs.declared.ending.CaptureEnding.TheVariants.{Ended}
use Rattle.fg_pcap.specs.Capture.{Packet, Fits, Frame, IsFileHeader, IsCapture, NoneFollows, frame_of, header_spelling, packet_spelling, place_after, spelling_of}
use Rattle.fg_pcap.specs.Frame.{Gives, GivesDatagram, HoldsDatagram, IsDatagramsOf}
use Rattle.fg_pcap.specs.Laws.{WrittenIsReadBack}
use Rattle.fg_pcap.specs.Spelling.{FitsCapture, capture_of, file_header, frame_headers, headers, most_datagram, spelling}

-- The record of a datagram, and its frame

abbrev frame_bytes : ℕ → List ℕ → List ℕ
frame_bytes port datagram = frame_headers port (length datagram) ++ datagram

abbrev packet_for : Record → Packet
packet_for r = record {
  seconds = r.time / 10 ^ 6;
  fraction = r.time % 10 ^ 6;
  original = 42 + length r.datagram;
  bytes = frame_bytes r.port r.datagram;
}

abbrev frame_for : Record → Frame
frame_for r = record { time = r.time; bytes = frame_bytes r.port r.datagram }

frame_length : (port : ℕ) (datagram : List ℕ) → length (frame_bytes port datagram) ≡ 42 + length datagram
frame_length port datagram = length-append (frame_headers port (length datagram)) datagram

-- a datagram is spelled as a record of a capture
header_of_record : (time port size : ℕ) → headers time port size ≡ header_spelling HighestFirst (time / 10 ^ 6) (time % 10 ^ 6) (42 + size) (42 + size) ++ frame_headers port size
unfolding headers
header_of_record time port size = refl

spelled_as : (r : Record) → spelling r ≡ packet_spelling HighestFirst (packet_for r)
spelled_as r =
    let size = length r.datagram in
    let header : ℕ → List ℕ = λ kept. header_spelling HighestFirst (r.time / 10 ^ 6) (r.time % 10 ^ 6) kept (42 + size) in
    ap (λ h. h ++ r.datagram) (header_of_record r.time r.port size)
    ∙ append_assoc (header (42 + size)) (frame_headers r.port size) r.datagram
    ∙ ap (λ kept. header kept ++ frame_bytes r.port r.datagram) (sym (frame_length r.port r.datagram))

all_spelled_as : (records : List Record) → flat_map spelling records ≡ spelling_of HighestFirst (map packet_for records)
all_spelled_as [] = refl
all_spelled_as (r ∷ records) = ap (λ t. t ++ flat_map spelling records) (spelled_as r) ∙ ap (λ t. packet_spelling HighestFirst (packet_for r) ++ t) (all_spelled_as records)

-- it can say what the datagram has
record_fits : (r : Record) → FitsCapture r → Fits (packet_for r)
record_fits r h = record {
  seconds = omega (arith, h.time);
  fraction = omega arith;
  original = omega (arith, h.size);
  kept = omega (arith, h.size, frame_length r.port r.datagram);
}

all_fit : (records : List Record) → AllByRecursion FitsCapture records → AllByRecursion Fits (map packet_for records)
all_fit [] h = tt
all_fit (r ∷ records) h = (record_fits r h.0, all_fit records h.1)

-- and its time
framed : (r : Record) → frame_for r ≡ frame_of Microseconds (packet_for r)
framed r =
    let whole : r.time ≡ r.time / 10 ^ 6 * 10 ^ 6 + r.time % 10 ^ 6 = sym (div-add-mod' r.time (10 ^ 6)) in
    let framed_at : ℕ → Frame = λ t. record { time = t; bytes = frame_bytes r.port r.datagram } in
    ap framed_at whole

all_framed : (records : List Record) → map frame_for records ≡ map (frame_of Microseconds) (map packet_for records)
all_framed [] = refl
all_framed (r ∷ records) = ap (λ f. f ∷ map frame_for records) (framed r) ∙ ap (λ t. frame_of Microseconds (packet_for r) ∷ t) (all_framed records)

-- The frame gives the datagram

size_told : (size : ℕ) → size ≤ most_datagram → from_be_bytes w16 (to_be_bytes w16 (28 + size)) ≡ 28 + size
size_told size h = from_be_bytes-to_be_bytes_2 (28 + size) (omega (arith, h))

udp_told : (size : ℕ) → size ≤ most_datagram → from_be_bytes w16 (to_be_bytes w16 (8 + size)) ≡ 8 + size
udp_told size h = from_be_bytes-to_be_bytes_2 (8 + size) (omega (arith, h))

-- what stands behind 28 bytes of headers
behind : (datagram : List ℕ) (n : ℕ) → n ≡ 8 + length datagram → take (20 + n - 28) datagram ≡ datagram
behind datagram n e = let same : 20 + n - 28 ≡ length datagram = omega (arith, e) in ap (λ k. take k datagram) same ∙ take-length datagram

holds : (port : ℕ) (datagram : List ℕ) → port < 2 ^ 16 → length datagram ≤ most_datagram → HoldsDatagram (drop 14 (frame_bytes port datagram)) port datagram
holds port datagram p s = record {
  version = refl;
  header = lit≤ tt;
  no_fragment = refl;
  protocol = refl;
  kept = omega (arith, size_told (length datagram) s, frame_length port datagram);
  udp_header = omega (arith, udp_told (length datagram) s);
  udp_within = omega (arith, udp_told (length datagram) s, size_told (length datagram) s);
  port_is = sym (from_be_bytes-to_be_bytes_2 port p);
  payload_is = sym (behind datagram _ (udp_told (length datagram) s));
}

gives : (r : Record) → trace.Fits r → FitsCapture r → GivesDatagram (frame_bytes r.port r.datagram) r.port r.datagram
gives r h k = record {
  place = 14;
  carries = inl (refl, refl);
  holds = holds r.port r.datagram h.port k.size;
}

all_given : (records : List Record) → AllByRecursion trace.Fits records → AllByRecursion FitsCapture records → IsDatagramsOf (map frame_for records) records
all_given [] h k = refl
all_given (r ∷ records) h k =
    let first : Gives (frame_for r) (r ∷ records) records = record { port = r.port; payload = r.datagram; gives = gives r h.0 k.0; first = refl } in
    inl (records, first, all_given records h.1 k.1)

-- The capture

file_header_is : IsFileHeader HighestFirst Microseconds file_header
unfolding file_header
file_header_is = record { size = refl; magic_is = refl; version_is = refl; link_is = refl }

file_header_size : length file_header ≡ 24
unfolding file_header
file_header_size = refl

none_follows : (max place : ℕ) → NoneFollows HighestFirst max place []
none_follows max place p after fits e = absurd (omega (arith, ap length e, length-append (packet_spelling HighestFirst p) after, length-append (header_spelling HighestFirst p.seconds p.fraction (length p.bytes) p.original) p.bytes))

is_capture : (records : List Record) (max : ℕ) → AllByRecursion FitsCapture records → length (capture_of records) ≤ max → IsCapture (capture_of records) max (map frame_for records) Ended
is_capture records max h size = record {
  order = HighestFirst;
  unit = Microseconds;
  packets = map packet_for records;
  rest = [];
  longest = record {
    begins = record {
      header = file_header;
      is_header = file_header_is;
      fit = all_fit records h;
      within = omega (arith, size, length-append file_header (flat_map spelling records), file_header_size, ap length (all_spelled_as records));
      spelled = ap (λ t. file_header ++ t) (all_spelled_as records ∙ sym (append-nil (spelling_of HighestFirst (map packet_for records))));
    };
    none = none_follows max (place_after HighestFirst (map packet_for records));
  };
  ending = refl;
  frames_are = all_framed records;
}

pub written_is_read_back : WrittenIsReadBack
written_is_read_back records max h k size = record {
  frames = map frame_for records;
  capture = is_capture records max k size;
  datagrams = all_given records h k;
}

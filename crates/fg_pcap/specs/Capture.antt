-- The capture: a classic pcap file (draft-ietf-opsawg-pcap). That the version is 2.4, that the link type is Ethernet, and
-- that a record keeps at most 262,144 bytes is this project's profile, and so is the order in which faults are named.
--
--     file header   magic (4 bytes), version 2.4 (2 and 2), zone (4), accuracy (4), most bytes kept (4), link type (4)
--     record        seconds (4), fraction of a second (4), kept length (4), original length (4), the bytes that were kept
use Rattle.std.specs.Prelude.{◌≡◌, ◌≢◌, ℕ, ◌+◌, ◌*◌, ◌/◌, ◌<◌, ◌≤◌, ◌^◌, ◌⊎◌, List, [], ◌++◌, length, map, take, slice_range}
use Rattle.std.specs.Int.{to_be_bytes, to_le_bytes, w16, w32}
use Rattle.std.specs.List.{flat_map, AllByRecursion}
use Rattle.fg_pcap.specs.declared.ending.CaptureEnding.{CaptureEnding}
use Rattle.fg_pcap.specs.declared.ending.CaptureEnding.TheVariants.{Ended, NotCapture, Cut, TooLong}
use Rattle.fg_pcap.specs.declared.file_header.ByteOrder.{ByteOrder}
use Rattle.fg_pcap.specs.declared.file_header.ByteOrder.TheVariants.{HighestFirst, LowestFirst}
use Rattle.fg_pcap.specs.declared.file_header.TimeUnit.{TimeUnit}
use Rattle.fg_pcap.specs.declared.file_header.TimeUnit.TheVariants.{Microseconds, Nanoseconds}

-- A number of four bytes, and one of two, in the file's byte order.
abbrev pub four_bytes : ByteOrder → ℕ → List ℕ
four_bytes HighestFirst n = to_be_bytes w32 n
four_bytes LowestFirst n = to_le_bytes w32 n

abbrev pub two_bytes : ByteOrder → ℕ → List ℕ
two_bytes HighestFirst n = to_be_bytes w16 n
two_bytes LowestFirst n = to_le_bytes w16 n

-- The magic, which says what the fractions of seconds count: a1b2c3d4 for microseconds, a1b23c4d for nanoseconds.
abbrev pub magic : TimeUnit → ℕ
magic Microseconds = 2712847316
magic Nanoseconds = 2712812621

-- A file header has 24 bytes, and a record's header 16.
abbrev pub file_header_length : ℕ
file_header_length = 24

abbrev pub record_header_length : ℕ
record_header_length = 16

-- The most bytes that a record may keep.
abbrev pub most_kept : ℕ
most_kept = 262144

-- The file header begins with this magic in this byte order.
abbrev pub HasMagic : ByteOrder → TimeUnit → List ℕ → Type 0
HasMagic order unit header = take 4 header ≡ four_bytes order (magic unit)

-- Its version is 2.4.
abbrev pub HasVersion : ByteOrder → List ℕ → Type 0
HasVersion order header = slice_range header 4 8 ≡ two_bytes order 2 ++ two_bytes order 4

-- Its link type is 1, Ethernet.
abbrev pub IsEthernet : ByteOrder → List ℕ → Type 0
IsEthernet order header = slice_range header 20 24 ≡ four_bytes order 1

-- These bytes are a file header in this byte order, of a file whose fractions count this unit. Its zone, its accuracy and
-- the most bytes that it names may be anything.
pub record IsFileHeader (order : ByteOrder) (unit : TimeUnit) (header : List ℕ) : Type 0 where
  pub size : length header ≡ file_header_length
  pub magic_is : HasMagic order unit header
  pub version_is : HasVersion order header
  pub link_is : IsEthernet order header

-- Where 24 bytes are none, the place of the first of these three fields that is wrong.
abbrev pub BreaksAt : List ℕ → ℕ → Type 0
BreaksAt header n =
    ((n ≡ 0) × ((order : ByteOrder) (unit : TimeUnit) → ¬ HasMagic order unit header))
    ⊎ ((order : ByteOrder) × (unit : TimeUnit) × HasMagic order unit header
    × (((n ≡ 4) × (¬ HasVersion order header)) ⊎ ((n ≡ 20) × HasVersion order header × (¬ IsEthernet order header))))

-- A record: whole seconds, the fraction, the length of the frame as it was sent, and the bytes of it that were kept.
pub record Packet : Type 0 where
  pub seconds : ℕ
  pub fraction : ℕ
  pub original : ℕ
  pub bytes : List ℕ

-- What the fields of a record can say.
pub record Fits (p : Packet) : Type 0 where
  pub seconds : p.seconds < 2 ^ 32
  pub fraction : p.fraction < 2 ^ 32
  pub original : p.original < 2 ^ 32
  pub kept : length p.bytes ≤ most_kept

-- The header of a record that keeps so many bytes.
abbrev pub header_spelling : ByteOrder → ℕ → ℕ → ℕ → ℕ → List ℕ
header_spelling order seconds fraction kept original =
    four_bytes order seconds ++ four_bytes order fraction ++ four_bytes order kept ++ four_bytes order original

-- The bytes of a record.
abbrev pub packet_spelling : ByteOrder → Packet → List ℕ
packet_spelling order p = header_spelling order p.seconds p.fraction (length p.bytes) p.original ++ p.bytes

-- The bytes of records, one after another.
abbrev pub spelling_of : ByteOrder → List Packet → List ℕ
spelling_of order packets = flat_map (packet_spelling order) packets

-- The place behind a file header and these records.
abbrev pub place_after : ByteOrder → List Packet → ℕ
place_after order packets = file_header_length + length (spelling_of order packets)

-- A file header and these records stand at the front of the bytes, within the first `max`.
pub record Begins (bytes : List ℕ) (max : ℕ) (order : ByteOrder) (unit : TimeUnit) (packets : List Packet) (rest : List ℕ) : Type 0 where
  pub header : List ℕ
  pub is_header : IsFileHeader order unit header
  pub fit : AllByRecursion Fits packets
  pub within : place_after order packets ≤ max
  pub spelled : bytes ≡ header ++ (spelling_of order packets ++ rest)

-- No record stands whole at this place, where these bytes are, within the first `max`.
abbrev pub NoneFollows : ByteOrder → ℕ → ℕ → List ℕ → Type 0
NoneFollows order max place rest =
    (p : Packet) (after : List ℕ) → Fits p → rest ≡ packet_spelling order p ++ after
    → max < place + length (packet_spelling order p)

-- And there is no longer list: no further record follows them.
pub record IsLongest (bytes : List ℕ) (max : ℕ) (order : ByteOrder) (unit : TimeUnit) (packets : List Packet) (rest : List ℕ) : Type 0 where
  pub begins : Begins bytes max order unit packets rest
  pub none : NoneFollows order max (place_after order packets) rest

-- At this place, within the first `max` bytes, stands the header of a record that keeps more bytes than it may.
pub record KeepsTooMuch (order : ByteOrder) (max place : ℕ) (rest : List ℕ) : Type 0 where
  pub seconds : ℕ
  pub fraction : ℕ
  pub kept : ℕ
  pub original : ℕ
  pub after : List ℕ
  pub spelled : rest ≡ header_spelling order seconds fraction kept original ++ after
  pub within : place + record_header_length ≤ max
  pub fits : kept < 2 ^ 32
  pub too_much : most_kept < kept

-- The ending behind the last record: `place` is the first byte after it, and `rest` stands there.
abbrev pub IsEnding : ByteOrder → ℕ → ℕ → List ℕ → CaptureEnding → Type 0
IsEnding order max place rest Ended = rest ≡ []
IsEnding order max place rest (NotCapture n) = (n ≡ place) × KeepsTooMuch order max place rest
IsEnding order max place rest (Cut n) =
    (n ≡ place) × (¬ KeepsTooMuch order max place rest) × (place + length rest ≤ max) × (rest ≢ [])
IsEnding order max place rest (TooLong n) =
    (n ≡ place) × (¬ KeepsTooMuch order max place rest) × (max < place + length rest)

-- A frame of a capture: when it was taken, in microseconds, and the bytes of it that were kept.
pub record Frame : Type 0 where
  pub time : ℕ
  pub bytes : List ℕ

-- A fraction of a second in whole microseconds.
abbrev pub microseconds : TimeUnit → ℕ → ℕ
microseconds Microseconds fraction = fraction
microseconds Nanoseconds fraction = fraction / 1000

-- The frame of a record. A fraction of more than a second is added as it is.
abbrev pub frame_of : TimeUnit → Packet → Frame
frame_of unit p = record { time = p.seconds * 10 ^ 6 + microseconds unit p.fraction; bytes = p.bytes }

-- The bytes, under a limit on their number, are a capture that has these frames and this ending. The places count from the
-- capture's first byte.
pub record IsCapture (bytes : List ℕ) (max : ℕ) (frames : List Frame) (end : CaptureEnding) : Type 0 where
  pub order : ByteOrder
  pub unit : TimeUnit
  pub packets : List Packet
  pub rest : List ℕ
  pub longest : IsLongest bytes max order unit packets rest
  pub ending : IsEnding order max (place_after order packets) rest end
  pub frames_are : frames ≡ map (frame_of unit) packets

-- The bytes, under that limit, aren't known to begin with a file header, and this is why: the first of these rules that
-- applies. The limit is below a file header, and there are more bytes; there are fewer bytes than a file header has; the
-- first 24 are none.
abbrev pub IsRefused : List ℕ → ℕ → CaptureEnding → Type 0
IsRefused bytes max (TooLong n) = (n ≡ 0) × (max < file_header_length) × (max < length bytes)
IsRefused bytes max (NotCapture n) =
    ((n ≡ length bytes) × (length bytes ≤ max) × (length bytes < file_header_length))
    ⊎ ((file_header_length ≤ max) × (file_header_length ≤ length bytes) × BreaksAt (take file_header_length bytes) n)
IsRefused bytes max Ended = ⊥
IsRefused bytes max (Cut n) = ⊥

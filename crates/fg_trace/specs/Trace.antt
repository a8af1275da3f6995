-- The trace: timed datagrams one after another. The format is this project's own.
use Rattle.std.specs.Prelude.{◌≡◌, ◌≢◌, ◌<◌, ◌≤◌, ◌^◌, ◌⊎◌, ℕ, List, [], ◌++◌, length, take, slice_index, codes}
use Rattle.std.specs.Int.{to_be_bytes, w16, w64}
use Rattle.std.specs.List.{flat_map, AllByRecursion}

-- The eight bytes that begin a trace.
abbrev pub magic : List ℕ
magic = codes "FECTRAC1"

-- A timed datagram: the time in microseconds, the UDP port, and the datagram's bytes.
pub record Record : Type 0 where
  pub time : ℕ
  pub port : ℕ
  pub datagram : List ℕ

-- What the fields of a record can say.
pub record Fits (r : Record) : Type 0 where
  pub time : r.time < 2 ^ 64
  pub port : r.port < 2 ^ 16
  pub size : length r.datagram < 2 ^ 16

-- A record's header is spelled as eight bytes of time, two of port and two of size, each number with its highest byte first.
abbrev pub header_spelling : ℕ → ℕ → ℕ → List ℕ
header_spelling time port size = to_be_bytes w64 time ++ to_be_bytes w16 port ++ to_be_bytes w16 size

-- A record is spelled as its header and the datagram.
abbrev pub spelling : Record → List ℕ
spelling r = header_spelling r.time r.port (length r.datagram) ++ r.datagram

-- The bytes of a trace of these records.
abbrev pub trace_of : List Record → List ℕ
trace_of records = magic ++ flat_map spelling records

-- The trace of these records stands at the front of the bytes, within the first `max`.
pub record Begins (bytes : List ℕ) (max : ℕ) (records : List Record) : Type 0 where
  pub fit : AllByRecursion Fits records
  pub within : length (trace_of records) ≤ max
  pub rest : List ℕ
  pub spelled : bytes ≡ trace_of records ++ rest

-- These are the most records whose trace does.
pub record IsLongest (bytes : List ℕ) (max : ℕ) (records : List Record) : Type 0 where
  pub begins : Begins bytes max records
  pub most : (others : List Record) → Begins bytes max others → length others ≤ length records

-- `n` is the first place at which the bytes and the magic differ, or the length of bytes that end before.
pub record DiffersAt (bytes : List ℕ) (n : ℕ) : Type 0 where
  pub within : n < length magic
  pub same : take n bytes ≡ take n magic
  pub differs : (length bytes ≡ n) ⊎ (slice_index bytes n ≢ slice_index magic n)

-- How a trace ends: at a record's end; nowhere, since it isn't a trace; inside a record; past the limit.
pub data Ending : Type 0 where
  Ended : Ending
  NotTrace : ℕ → Ending
  Cut : ℕ → Ending
  TooLong : ℕ → Ending

-- The bytes, under a limit on their number, have these records and this ending. The places count from the trace's
-- first byte: of the first difference from the magic, or of the first byte after the last whole record.
abbrev pub IsTrace : List ℕ → ℕ → List Record → Ending → Type 0
IsTrace bytes max records Ended =
    (length bytes ≤ max) × IsLongest bytes max records × (length bytes ≡ length (trace_of records))
IsTrace bytes max records (NotTrace n) = (records ≡ []) × DiffersAt bytes n
IsTrace bytes max records (Cut n) =
    (length bytes ≤ max) × IsLongest bytes max records × (n ≡ length (trace_of records)) × (n < length bytes)
IsTrace bytes max records (TooLong n) = (max < length bytes) × IsLongest bytes max records × (n ≡ length (trace_of records))

-- The record stands at the front of the bytes, and these are the rest.
pub record StandsFirst (bytes : List ℕ) (r : Record) (rest : List ℕ) : Type 0 where
  pub fits : Fits r
  pub spelled : bytes ≡ spelling r ++ rest

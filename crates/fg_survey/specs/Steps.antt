-- What is kept of a trace, and how far a survey has come. No public contract cites what stands here.
use Rattle.std.specs.Prelude.{◌≡◌, ◌≢◌, ℕ, ◌<◌, ◌^◌, ⊤, List, drop, get_or, length}
use Rattle.std.specs.List.{AllByRecursion}
use Rattle.fg_report.specs.declared.tail.Tail.{Tail}
use Rattle.fg_report.specs.declared.tail.Tail.TheVariants as tail
use Rattle.fg_rtp.specs.Header.{header_length}
use Rattle.fg_streams.specs.Arrival.{Arrival}
use Rattle.fg_streams.specs.Steps.{IsStreamOf, StreamState, told}
use Rattle.fg_streams.specs.Summary.{summary_of}
use Rattle.fg_trace.specs.declared.step.Finish.{Finish}
use Rattle.fg_trace.specs.declared.step.Finish.TheVariants as finish
use Rattle.fg_trace.specs.Trace.{Record}
use Rattle.fg_survey.specs.declared.sheet.Sheet.{Sheet}
use Rattle.fg_survey.specs.declared.reading.Reading.{Reading}
use Rattle.fg_survey.specs.declared.reading.Reading.TheVariants.{Media as IsMedia, Parity, Other}
use Rattle.fg_survey.specs.declared.rows.Row.{Row}
use Rattle.fg_survey.specs.declared.senders.Sender.{Sender}
use Rattle.fg_survey.specs.declared.streams.Media.{Media}
use Rattle.fg_survey.specs.declared.streams.Streams.{Streams}
use Rattle.fg_survey.specs.declared.totals.Totals.{Totals}
use Rattle.fg_survey.specs.Heard.{Heard, AreHeard}
use Rattle.fg_survey.specs.Lanes.{KeepsLanes}
use Rattle.fg_survey.specs.Rows.{ports, row_of}
use Rattle.fg_survey.specs.Senders.{arrivals_of, senders_of, unlisted}
use Rattle.fg_survey.specs.Totals.{size, totals_of}

-- Each count can rise.

abbrev pub TotalsHaveRoom : Totals → Type 0
TotalsHaveRoom totals = (totals.records < 2 ^ 60) × (totals.bytes < 2 ^ 60) × (totals.backward < 2 ^ 60)

abbrev pub RowHasRoom : Row → Type 0
RowHasRoom row = (row.records < 2 ^ 60) × (row.bytes < 2 ^ 60) × (row.media < 2 ^ 60) × (row.parity < 2 ^ 60)

-- There is a row for each port.
pub record ArePorts (rows : List Row) (heard : List Heard) : Type 0 where
  pub all : length rows ≡ ports
  pub each : (port : ℕ) (d : Row) → port < ports → get_or rows port d ≡ row_of heard port

-- The sender stands at this place.
pub record IsFoundAt (senders : List Sender) (sender : Sender) (place : ℕ) : Type 0 where
  pub within : place < length senders
  pub there : (d : Sender) → get_or senders place d ≡ sender

-- What was heard of a media datagram, and what it adds to its stream.
abbrev pub media_heard : Media → List ℕ → Heard
media_heard media datagram = record {
  time = media.time;
  port = media.sender.port;
  datagram = datagram;
  reading = IsMedia media.seq media.ts media.sender.ssrc;
}

abbrev pub arrival_of : Media → List ℕ → Arrival
arrival_of media datagram =
    record { time = media.time; seq = media.seq; ts = media.ts; payload = drop header_length datagram }

-- It is no media datagram.
abbrev pub IsNoMedia : Reading → Type 0
IsNoMedia (IsMedia seq ts ssrc) = ⊥
IsNoMedia (Parity base offset number) = ⊤
IsNoMedia Other = ⊤

-- Each sender has its stream, and so many media datagrams are of none of them.
pub record AreStreams (senders : List Sender) (streams : List StreamState) (more : ℕ) (heard : List Heard) : Type 0 where
  pub senders_are : senders ≡ senders_of heard
  pub as_many : length streams ≡ length senders
  pub distinct : (i j : ℕ) (d : Sender) → i < j → j < length senders → get_or senders i d ≢ get_or senders j d
  pub each : (i : ℕ) (d : StreamState) (e : Sender) → i < length senders
      → IsStreamOf (get_or streams i d) (arrivals_of (get_or senders i e) heard)
  pub more_is : more ≡ unlisted heard

abbrev pub KeepsStreams : Streams → List Heard → Type 0
KeepsStreams streams heard = AreStreams streams.senders.items streams.streams.items streams.more heard

-- Each tells what its sender's stream comes to.
pub record HaveEnded (streams : Streams) (heard : List Heard) : Type 0 where
  pub senders_are : streams.senders.items ≡ senders_of heard
  pub as_many : length streams.streams.items ≡ length streams.senders.items
  pub each : (i : ℕ) (d : StreamState) (e : Sender) → i < length streams.senders.items
      → told (get_or streams.streams.items i d) ≡ summary_of (arrivals_of (get_or streams.senders.items i e) heard)

-- What is kept of these records.
pub record IsSheet (sheet : Sheet) (records : List Record) : Type 0 where
  pub heard : List Heard
  pub read : AreHeard heard records
  pub sizes : AllByRecursion (λ x. size x < 2 ^ 16) heard
  pub totals : sheet.totals ≡ totals_of heard
  pub rows : ArePorts sheet.rows.items heard
  pub streams : KeepsStreams sheet.streams heard
  pub lanes : KeepsLanes sheet.lanes heard

-- What is kept of these records, which are few.
pub record HasKept (sheet : Sheet) (records : List Record) : Type 0 where
  pub kept : IsSheet sheet records
  pub few : length records < 2 ^ 40

-- The trace whose records were read ended so.
abbrev pub IsTailOf : Finish → Tail → Type 0
IsTailOf finish.Done end = end ≡ tail.Ended
IsTailOf (finish.Cut place) end = end ≡ tail.Cut place
IsTailOf (finish.TooLong place) end = end ≡ tail.TooLong place
IsTailOf (finish.NotTrace place) end = ⊤
IsTailOf finish.ReadFault end = ⊤
IsTailOf finish.WriteFault end = ⊤
IsTailOf finish.Memory end = ⊤

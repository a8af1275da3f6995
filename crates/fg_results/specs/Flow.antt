-- What the records of a trace give for one flow. The records are read by SMPTE ST 2022-2 and SMPTE ST 2022-1; what is
-- counted is this project's own.
use Rattle.std.specs.Prelude.{◌≡◌, ◌==◌, ◌||◌, ℕ, Bool, true, false, not, is_some, List, [], filter, length, slice_get, Option, None, Some}
use Rattle.std.specs.List.{flat_map, count_by, AllZip}
use Rattle.fg_words.specs.declared.Word.{Word}
use Rattle.fg_rtp.specs.MediaDatagram.{IsMediaDatagram, payload_of}
use Rattle.fg_fechead.specs.declared.Parity.{Parity as ParityRead}
use Rattle.fg_fechead.specs.ParityDatagram.{IsParityDatagram}
use Rattle.fg_trace.specs.Trace.{Record}
use Rattle.fg_shape.specs.declared.kind.Kind.{Kind}
use Rattle.fg_shape.specs.declared.kind.Kind.TheVariants as kind
use Rattle.fg_shape.specs.Kind.{port_of}
use Rattle.fg_shape.specs.Playout.{Playout}
use Rattle.fg_playout.specs.declared.reply.Reply.{Reply}
use Rattle.fg_playout.specs.declared.reply.Reply.TheVariants.{Admitted, Duplicate, Conflict, Late, NotStarted, BeforeStart, Ahead, Crowded, Foreign}
use Rattle.fg_playout.specs.declared.reply.Outcome.TheVariants.{Repaired, Inconsistent}
use Rattle.fg_playout.specs.Admission.{Parity}
use Rattle.fg_playout.specs.Play.{Play, Shown}
use Rattle.fg_playout.specs.Run.{Arrival, carries, protects, refused, time_of, IsRun, count_of}
use Rattle.fg_report.specs.declared.marks.Marks.{Marks}
use Rattle.fg_report.specs.declared.flow_sum.FlowSum.{FlowSum}
use Rattle.fg_runs.specs.Runs.{AreRunsOf}

-- The flow's records

-- The record is on one of the flow's three ports. A flow is named by the port of its media datagrams.
abbrev pub is_of : ℕ → Record → Bool
is_of flow r =
    port_of flow kind.Media == r.port || port_of flow kind.Column == r.port || port_of flow kind.Row == r.port

-- The flow's records, in the order of the trace.
abbrev pub records_of : ℕ → List Record → List Record
records_of flow records = filter (is_of flow) records

-- How they are read

-- What a parity datagram says of its flow's words.
abbrev pub parity_of : ParityRead → Parity
parity_of parity = record {
  base = parity.base;
  offset = parity.shape.offset;
  count = parity.shape.na;
  word = parity.word;
}

-- A datagram on the media port is read so: as a media datagram. One that is none is refused.
abbrev pub IsReadAsMedia : List ℕ → Arrival → Type 0
IsReadAsMedia bytes (carries time seq ssrc word) = IsMediaDatagram bytes seq ssrc word
IsReadAsMedia bytes (protects time by parity) = ⊥
IsReadAsMedia bytes (refused time by) =
    (by ≡ kind.Media) × ((seq ssrc : ℕ) (word : Word) → ¬ IsMediaDatagram bytes seq ssrc word)

-- And so is one on a port for parity, which is told by its kind: as a parity datagram.
abbrev pub IsReadAsParity : Kind → List ℕ → Arrival → Type 0
IsReadAsParity kind bytes (carries time seq ssrc word) = ⊥
IsReadAsParity kind bytes (protects time by parity) =
    (by ≡ kind) × ((read : ParityRead) × IsParityDatagram bytes read × (parity ≡ parity_of read))
IsReadAsParity kind bytes (refused time by) =
    (by ≡ kind) × ((read : ParityRead) → ¬ IsParityDatagram bytes read)

-- A datagram on a port of this kind is read so.
abbrev pub IsReadAs : Kind → List ℕ → Arrival → Type 0
IsReadAs kind.Media bytes arrival = IsReadAsMedia bytes arrival
IsReadAs kind bytes arrival = IsReadAsParity kind bytes arrival

-- A record of the flow arrives so, at its time.
abbrev pub Arrives : ℕ → Record → Arrival → Type 0
Arrives flow r arrival =
    (kind : Kind) × (port_of flow kind ≡ r.port) × IsReadAs kind r.datagram arrival × (time_of arrival ≡ r.time)

-- What its plays show

-- All that the plays show, position after position.
abbrev pub all_shown : List Play → List Shown
all_shown plays = flat_map (λ play. play.shown) plays

abbrev pub shows_word : Shown → Bool
shows_word shown = is_some shown.word

-- The payload of a position that shows a word.
abbrev pub shown_payload : Shown → List ℕ
shown_payload shown = elim shown.word as (λ _. List ℕ) [ None ↦ [] | Some word ↦ payload_of word ]

-- The flow's lane: the payloads of all words shown, in the order of their positions.
abbrev pub lane_of : List Play → List ℕ
lane_of plays = flat_map shown_payload (all_shown plays)

-- What is counted

abbrev pub is_inconsistent : Play → Bool
is_inconsistent play = elim play.outcome as (λ _. Bool) [ Repaired ↦ false | Inconsistent ↦ true ]

-- How many datagrams of a stream got each reply, and how many their reader refused.
abbrev pub marks_of : Kind → List Arrival → List (Option Reply) → Marks
marks_of stream arrivals replies = record {
  admitted = count_of stream (Some Admitted) arrivals replies;
  duplicate = count_of stream (Some Duplicate) arrivals replies;
  conflict = count_of stream (Some Conflict) arrivals replies;
  late = count_of stream (Some Late) arrivals replies;
  not_started = count_of stream (Some NotStarted) arrivals replies;
  before_start = count_of stream (Some BeforeStart) arrivals replies;
  ahead = count_of stream (Some Ahead) arrivals replies;
  crowded = count_of stream (Some Crowded) arrivals replies;
  bad = count_of stream None arrivals replies;
  foreign = count_of stream (Some Foreign) arrivals replies;
}

-- The position is played, and shows no word. The first position played is 0, and none is left out.
pub record ShowsNone (plays : List Play) (position : ℕ) : Type 0 where
  pub shown : Shown
  pub played : slice_get (all_shown plays) position ≡ Some shown
  pub none : shown.word ≡ None

-- What the gap lines tell: the maximal runs of played positions that show none, in rising order. Runs that touch are one, also across
-- plays.
abbrev pub AreGaps : List Play → List (ℕ × ℕ) → Type 0
AreGaps plays gaps = AreRunsOf (ShowsNone plays) gaps

-- A flow's counts: of positions played, of plays, of replies and of the runs that were begun; and these gaps.
abbrev pub sum_of : ℕ → ℕ → List (ℕ × ℕ) → List Arrival → List Play → List (Option Reply) → FlowSum
sum_of flow runs gaps arrivals plays replies = record {
  port = flow;
  shown = count_by shows_word (all_shown plays);
  repaired = count_by (λ shown. shown.repaired) (all_shown plays);
  missing = count_by (λ shown. not (shows_word shown)) (all_shown plays);
  windows = length plays;
  inconsistent = count_by is_inconsistent plays;
  media = marks_of kind.Media arrivals replies;
  column = marks_of kind.Column arrivals replies;
  row = marks_of kind.Row arrivals replies;
  runs = runs;
  gaps = gaps;
}

-- What a flow comes to: the bytes of its lane, and its counts.
pub record FlowResult : Type 0 where
  pub lane : List ℕ
  pub sum : FlowSum

-- The records give the flow this result: its records are read, its run over them is made, and the result is told by the
-- run.
pub record IsFlowResult (playout : Playout) (records : List Record) (flow : ℕ) (result : FlowResult) : Type 0 where
  pub arrivals : List Arrival
  pub plays : List Play
  pub replies : List (Option Reply)
  pub arrive : AllZip (Arrives flow) (records_of flow records) arrivals
  pub run : IsRun playout arrivals plays replies
  pub gaps : List (ℕ × ℕ)
  pub are_gaps : AreGaps plays gaps
  pub lane : result.lane ≡ lane_of plays
  pub sum : result.sum ≡ sum_of flow run.filled.runs gaps arrivals plays replies

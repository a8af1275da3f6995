-- How far a repair has come, for one flow.
use Rattle.std.specs.Prelude.{◌≡◌, ◌≢◌, ◌+◌, ◌≤◌, ◌<◌, ◌^◌, ℕ, not, Option, Some, None, IsSome, List, [], ◌∷◌, ◌++◌, length}
use Rattle.std.specs.List.{AllZip, count_by}
use Rattle.fg_io.specs.Prefix.{IsPrefix}
use Rattle.fg_io.specs.Outlet.{Lanes, lane_of as lane_at, lane_bytes, OthersStay, WhereTold}
use Rattle.fg_trace.specs.Trace.{Record}
use Rattle.fg_shape.specs.declared.kind.Kind.{Kind}
use Rattle.fg_shape.specs.declared.kind.Kind.TheVariants as kind
use Rattle.fg_shape.specs.Playout.{Playout, PlayoutFits}
use Rattle.fg_shape.specs.Shape.{position_limit}
use Rattle.fg_desk.specs.declared.desk.Played.{Played}
use Rattle.fg_playout.specs.declared.reply.Reply.{Reply}
use Rattle.fg_playout.specs.declared.reply.Reply.TheVariants.{Admitted, Duplicate, Conflict, Late, NotStarted, BeforeStart, Ahead, Crowded, Foreign}
use Rattle.fg_playout.specs.State.{State, opening}
use Rattle.fg_playout.specs.Play.{Play, Shown}
use Rattle.fg_playout.specs.Run.{Arrival, time_of, Takes, TakesThen, TakesAll}
use Rattle.fg_playout.specs.Laws.{AreHeldSteps, HavePlayedFor, HavePlayedThen}
use Rattle.fg_report.specs.declared.marks.Marks.{Marks}
use Rattle.fg_report.specs.declared.flow_sum.FlowSum.{FlowSum}
use Rattle.fg_report.specs.Gaps.{gaps_end}
use Rattle.fg_results.specs.Flow.{FlowResult, IsFlowResult, IsReadAs, Arrives, records_of, all_shown, shows_word, is_inconsistent, lane_of, sum_of}
use Rattle.fg_results.specs.Gaps.{gaps_from, gaps_of}
use Rattle.fg_results.specs.Stops.{HasShown}
use Rattle.fg_engine.specs.declared.window.Skipped.{Skipped}

-- The port's lane has gained the piece, and is still there if it was. All others are as they were.
pub record LaneGrows (before : Lanes) (port : ℕ) (piece : List ℕ) (after : Lanes) : Type 0 where
  pub bytes : lane_bytes after port ≡ lane_bytes before port ++ piece
  pub kept : IsSome (lane_at before port) → IsSome (lane_at after port)
  pub others : OthersStay before port after

abbrev pub Grows : Option Lanes → ℕ → List ℕ → Option Lanes → Type 0
Grows before port piece after = WhereTold (λ old new. LaneGrows old port piece new) before after

-- The counts of a flow so far, with the gaps of its plays.
abbrev pub sum_so_far : ℕ → ℕ → List Arrival → List Play → List (Option Reply) → FlowSum
sum_so_far flow runs arrivals plays replies = sum_of flow runs (gaps_of plays) arrivals plays replies

-- The flow has taken its part of these records: its desk has come to this state, its counts are these, and its plays have
-- shown these bytes.
pub record HasTaken
    (playout : Playout) (flow : ℕ) (records : List Record) (state : State) (sum : FlowSum) (lane : List ℕ) : Type 0 where
  pub arrivals : List Arrival
  pub plays : List Play
  pub replies : List (Option Reply)
  pub arrive : AllZip (Arrives flow) (records_of flow records) arrivals
  pub takes : TakesAll (opening playout) arrivals plays replies state
  pub lane_is : lane ≡ lane_of plays
  pub sum_is : sum ≡ sum_so_far flow state.runs arrivals plays replies

-- Some records have been taken, fewer than a trace within the limits can have.
pub record IsUnderway (playout : Playout) (flow : ℕ) (state : State) (sum : FlowSum) : Type 0 where
  pub records : List Record
  pub lane : List ℕ
  pub few : length records < 2 ^ 43
  pub taken : HasTaken playout flow records state sum lane
  pub fits : PlayoutFits playout

-- The bytes are the front of the flow's whole lane in the trace of these records.
abbrev pub BeginsLane : Playout → List Record → ℕ → List ℕ → Type 0
BeginsLane playout records flow lane =
    (result : FlowResult) → IsFlowResult playout records flow result → IsPrefix lane result.lane

-- One more record of the flow is taken whole.
pub record TakesRecord
    (playout : Playout) (flow : ℕ) (records : List Record) (r : Record) (lane : List ℕ)
    (state : State) (sum : FlowSum) (before after : Option Lanes) : Type 0 where
  pub piece : List ℕ
  pub grows : Grows before flow piece after
  pub taken : HasTaken playout flow (records ++ r ∷ []) state sum (lane ++ piece)

-- A fault came while it was taken.
pub record BreaksAtRecord
    (playout : Playout) (flow : ℕ) (records : List Record) (r : Record) (lane : List ℕ) (before after : Option Lanes) : Type 0 where
  pub part : List ℕ
  pub grows : Grows before flow part after
  pub next : (more : List ℕ) → HasShown playout flow (records ++ r ∷ []) more → IsPrefix (lane ++ part) more

-- The flow is flushed whole.
pub record EndsFlow
    (playout : Playout) (flow : ℕ) (records : List Record) (lane : List ℕ) (sum : FlowSum) (before after : Option Lanes) : Type 0 where
  pub piece : List ℕ
  pub grows : Grows before flow piece after
  pub result : IsFlowResult playout records flow (record { lane = lane ++ piece; sum = sum })

-- A fault came while it was flushed.
pub record BreaksAtEnd
    (playout : Playout) (flow : ℕ) (records : List Record) (lane : List ℕ) (before after : Option Lanes) : Type 0 where
  pub part : List ℕ
  pub grows : Grows before flow part after
  pub begins : BeginsLane playout records flow (lane ++ part)

-- What one datagram adds to the counts, and what plays do

-- The counts of a stream after one more reply; with none, the reader refused the datagram.
abbrev pub with_reply : Marks → Option Reply → Marks
with_reply marks (Some Admitted) = record marks { admitted = marks.admitted + 1 }
with_reply marks (Some Duplicate) = record marks { duplicate = marks.duplicate + 1 }
with_reply marks (Some Conflict) = record marks { conflict = marks.conflict + 1 }
with_reply marks (Some Late) = record marks { late = marks.late + 1 }
with_reply marks (Some NotStarted) = record marks { not_started = marks.not_started + 1 }
with_reply marks (Some BeforeStart) = record marks { before_start = marks.before_start + 1 }
with_reply marks (Some Ahead) = record marks { ahead = marks.ahead + 1 }
with_reply marks (Some Crowded) = record marks { crowded = marks.crowded + 1 }
with_reply marks (Some Foreign) = record marks { foreign = marks.foreign + 1 }
with_reply marks None = record marks { bad = marks.bad + 1 }

-- The flow's counts after one more reply to a datagram of this kind.
abbrev pub with_answer : Kind → FlowSum → Option Reply → FlowSum
with_answer kind.Media sum reply = record sum { media = with_reply sum.media reply }
with_answer kind.Column sum reply = record sum { column = with_reply sum.column reply }
with_answer kind.Row sum reply = record sum { row = with_reply sum.row reply }

-- The flow's counts after more positions that show this, from a position on.
abbrev pub with_shown : FlowSum → ℕ → List Shown → FlowSum
with_shown sum first shown = record sum {
  shown = sum.shown + count_by shows_word shown;
  repaired = sum.repaired + count_by (λ shown. shown.repaired) shown;
  missing = sum.missing + count_by (λ shown. not (shows_word shown)) shown;
  gaps = gaps_from sum.gaps first shown;
}

-- And after more plays.
abbrev pub with_plays : FlowSum → ℕ → List Play → FlowSum
with_plays sum first plays = record (with_shown sum first (all_shown plays)) {
  windows = sum.windows + length plays;
  inconsistent = sum.inconsistent + count_by is_inconsistent plays;
}

-- Each count of replies has room for one more.
pub record MarksHaveRoom (marks : Marks) : Type 0 where
  pub admitted : marks.admitted < 2 ^ 44
  pub duplicate : marks.duplicate < 2 ^ 44
  pub conflict : marks.conflict < 2 ^ 44
  pub late : marks.late < 2 ^ 44
  pub not_started : marks.not_started < 2 ^ 44
  pub before_start : marks.before_start < 2 ^ 44
  pub ahead : marks.ahead < 2 ^ 44
  pub crowded : marks.crowded < 2 ^ 44
  pub bad : marks.bad < 2 ^ 44
  pub foreign : marks.foreign < 2 ^ 44

abbrev pub RepliesHaveRoom : FlowSum → Type 0
RepliesHaveRoom sum = MarksHaveRoom sum.media × MarksHaveRoom sum.column × MarksHaveRoom sum.row

-- No count of positions or plays is past the position that is played next.
pub record CountsWithin (sum : FlowSum) (mark : ℕ) : Type 0 where
  pub shown : sum.shown ≤ mark
  pub repaired : sum.repaired ≤ mark
  pub missing : sum.missing ≤ mark
  pub windows : sum.windows ≤ mark
  pub inconsistent : sum.inconsistent ≤ mark
  pub gaps : gaps_end sum.gaps ≤ mark

-- From this position on there is room to count these windows as skipped.
pub record SkipsWithin (sum : FlowSum) (behind : ℕ) (skipped : Skipped) : Type 0 where
  pub within : CountsWithin sum behind
  pub limit : behind + skipped.positions ≤ position_limit
  pub some : skipped.windows ≤ skipped.positions

-- What plays leave as it was: the flow's port and, as these say, its player, which may still be given the flow's plays.
pub record Stays (old new : FlowSum) (Player Still : Type 0) : Type 0 where
  pub port : new.port ≡ old.port
  pub player : Player
  pub still : Still

-- A play, as its answer and what it shows tell it.
abbrev pub played_as : Played → List Shown → Play
played_as played shown = record { first = played.first; shown = shown; outcome = played.verdict }

-- The port's lane has gained a front of the piece.
abbrev pub GrowsPart : Option Lanes → ℕ → List ℕ → Option Lanes → Type 0
GrowsPart before port piece after = (part : List ℕ) × IsPrefix part piece × Grows before port part after

-- Such plays were made from here. They are counted, and the lane has gained what they show.
pub record HaveShown
    (Are : List Play → State → Type 0) (old : State) (sum : FlowSum) (before : Option Lanes)
    (new : State) (sum' : FlowSum) (after : Option Lanes) : Type 0 where
  pub plays : List Play
  pub are : Are plays new
  pub mark : new.mark ≡ old.mark + length (all_shown plays)
  pub grows : Grows before sum.port (lane_of plays) after
  pub counts : sum' ≡ with_plays sum old.mark plays

-- A fault came while they were made: the lane has gained a front of what they show.
pub record BreakOff (Are : List Play → State → Type 0) (port : ℕ) (before after : Option Lanes) : Type 0 where
  pub plays : List Play
  pub now : State
  pub are : Are plays now
  pub part : GrowsPart before port (lane_of plays) after

-- Held plays at a time, so far: there are none where words may wait for ever.
abbrev pub HaveHeld : State → ℕ → List Play → State → Type 0
HaveHeld old time plays now = (old.playout.hold ≢ 0) × AreHeldSteps old time plays now

-- A datagram of this kind and time is read. Taking it so, its plays are made, and it is admitted or gets its reply.
pub record AdmitsBy
    (Taking : State → Arrival → List Play → Option Reply → State → Type 0) (kind : Kind) (time : ℕ) (bytes : List ℕ)
    (old : State) (sum : FlowSum) (before : Option Lanes) (reply : Option Reply)
    (new : State) (sum' : FlowSum) (after : Option Lanes) : Type 0 where
  pub arrival : Arrival
  pub came : time_of arrival ≡ time
  pub due : List Play
  pub read : IsReadAs kind bytes arrival
  pub takes : Taking old arrival due reply new
  pub grows : Grows before sum.port (lane_of due) after
  pub counts : sum' ≡ with_plays sum old.mark due

-- It is taken from its held plays on, or where no word waits for too long any more.
abbrev pub AdmitsDatagram : Kind → ℕ → List ℕ → State → FlowSum → Option Lanes → Option Reply → State → FlowSum → Option Lanes → Type 0
AdmitsDatagram = AdmitsBy Takes

abbrev pub AdmitsThen : Kind → ℕ → List ℕ → State → FlowSum → Option Lanes → Option Reply → State → FlowSum → Option Lanes → Type 0
AdmitsThen = AdmitsBy TakesThen

-- The bytes are a front of what such plays show.
pub record Begins (Are : List Play → State → Type 0) (part : List ℕ) : Type 0 where
  pub plays : List Play
  pub now : State
  pub are : Are plays now
  pub front : IsPrefix part (lane_of plays)

-- A fault came while a datagram was taken: whatever it is read as, the lane has gained a front of what its plays showed so far.
pub record BreaksBy
    (Playing : State → Arrival → List Play → State → Type 0) (kind : Kind) (time : ℕ) (bytes : List ℕ)
    (old : State) (port : ℕ) (before after : Option Lanes) : Type 0 where
  pub part : List ℕ
  pub grows : Grows before port part after
  pub begins : (arrival : Arrival) → time_of arrival ≡ time → IsReadAs kind bytes arrival → Begins (Playing old arrival) part

abbrev pub BreaksAtDatagram : Kind → ℕ → List ℕ → State → ℕ → Option Lanes → Option Lanes → Type 0
BreaksAtDatagram = BreaksBy HavePlayedFor

abbrev pub BreaksThen : Kind → ℕ → List ℕ → State → ℕ → Option Lanes → Option Lanes → Type 0
BreaksThen = BreaksBy HavePlayedThen

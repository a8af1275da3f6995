-- What a lane has gained at a stage of a repair is one.
use Rattle.std.proofs.Common.{◌≡◌, inl, inr, ℕ, List, take, sym, ap, ◌∙◌, subst}
use Rattle.fg_trace.specs.Trace.{Record}
use Rattle.fg_playout.specs.Laws.{OneTaking}
use Rattle.fg_playout.specs.Run.{Arrival, TakesAll}
use Rattle.fg_playout.specs.State.{opening}
use Rattle.fg_fechead.specs.Laws.{ReadsOneWay as ParityReadsOneWay}
use Rattle.fg_rtp.specs.Laws.{ReadsOneWay as MediaReadsOneWay}
use Rattle.fg_flows.specs.Plan.{playout_of}
use Rattle.fg_shape.specs.Playout.{Playout}
use Rattle.fg_results.specs.Flow.{FlowResult, records_of, lane_of}
use Rattle.fg_results.specs.Laws.{OneFlowResult, OneGained}
use Rattle.fg_results.specs.Stops.{HasShown, HasLane, Making, Taking, Emptying, Flushing}
use Rattle.fg_results.proofs.ArrivalLemmas.{arrivals_are_read, one_list_arrives}

one_shown : MediaReadsOneWay → ParityReadsOneWay → OneTaking → (playout : Playout) (flow : ℕ) (records : List Record) (one other : List ℕ) → HasShown playout flow records one → HasShown playout flow records other → one ≡ other
one_shown media parity once playout flow records one other a b =
    let same = one_list_arrives media parity flow (records_of flow records) b.arrivals a.arrivals b.arrive a.arrive in
    let plays = once playout a.arrivals a.plays b.plays a.replies b.replies a.state b.state (arrivals_are_read flow records a.arrivals a.arrive) a.takes
    (subst (λ (xs : List Arrival). TakesAll (opening playout) xs b.plays b.replies b.state) same b.takes) in
    a.bytes_are ∙ ap lane_of plays.0 ∙ sym b.bytes_are

one_lane : OneFlowResult → (playout : Playout) (flow : ℕ) (records : List Record) (one other : List ℕ) → HasLane playout flow records one → HasLane playout flow records other → one ≡ other
one_lane law playout flow records one other a b =
    a.bytes_are ∙ ap (λ (r : FlowResult). r.lane) (law playout flow records a.result b.result a.is_result b.is_result) ∙ sym b.bytes_are

pub one_gained : MediaReadsOneWay → ParityReadsOneWay → OneTaking → OneFlowResult → OneGained
one_gained media parity once law plan records (Making n) flow one other a b = a ∙ sym b
one_gained media parity once law plan records (Taking n) flow one other a b =
    one_shown media parity once (playout_of plan) flow (take n records) one other a b
one_gained media parity once law plan records (Emptying done first next) flow one other (inl a) (inl b) =
    one_shown media parity once (playout_of plan) flow (take next records) one other a.1 b.1
one_gained media parity once law plan records (Emptying done first next) flow one other (inl a) (inr b) = absurd (b.0 a.0)
one_gained media parity once law plan records (Emptying done first next) flow one other (inr a) (inl b) = absurd (a.0 b.0)
one_gained media parity once law plan records (Emptying done first next) flow one other (inr a) (inr b) =
    one_shown media parity once (playout_of plan) flow (take first records) one other a.1 b.1
one_gained media parity once law plan records (Flushing n) flow one other (inl a) (inl b) =
    one_lane law (playout_of plan) flow records one other a.1 b.1
one_gained media parity once law plan records (Flushing n) flow one other (inl a) (inr b) = absurd (b.0 a.0)
one_gained media parity once law plan records (Flushing n) flow one other (inr a) (inl b) = absurd (a.0 b.0)
one_gained media parity once law plan records (Flushing n) flow one other (inr a) (inr b) =
    one_shown media parity once (playout_of plan) flow records one other a.1 b.1

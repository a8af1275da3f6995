-- Where a repair stops, each lane has gained a part of the flow's whole lane.
use Rattle.std.proofs.Common.{◌≡◌, ◌⊎◌, inl, inr, ℕ, zero, suc, ◌<◌, ◌≤◌, Option, None, Some, IsSome, unwrap_or, List, [], ◌∷◌, length, take, drop, refl, sym, ap, ◌∙◌, subst, arith, append-nil, ⊎_elim}
use Rattle.std.specs.List.{AllZip, Contains, slice_index_or}
use Rattle.std.proofs.lemmas.Bool.{cases_eq}
use Rattle.std.proofs.lemmas.List.{take-append-drop}
use Rattle.fg_io.specs.Outlet.{Lanes, lane_of, lane_bytes}
use Rattle.fg_io.specs.Prefix.{IsPrefix}
use Rattle.fg_io.proofs.PrefixLemmas.{IsPrefix-nil, IsPrefix-trans}
use Rattle.fg_trace.specs.declared.step.Finish.{Finish}
use Rattle.fg_trace.specs.Trace.{Record}
use Rattle.fg_flows.specs.declared.Plan.{Plan}
use Rattle.fg_flows.specs.Plan.{playout_of}
use Rattle.fg_shape.specs.Playout.{Playout}
use Rattle.fg_results.specs.Existence.{FlowResultExists}
use Rattle.fg_results.specs.Flow.{FlowResult, IsFlowResult, lane_of as lane_of_plays}
use Rattle.fg_results.specs.Lanes.{LanesGain, LaneGainsPart, LanesGainPart}
use Rattle.fg_results.specs.Laws.{OneFlowResult, ShownIsFront, StopsLeaveParts}
use Rattle.fg_results.specs.Repair.{AreResults, lanes_of}
use Rattle.fg_results.specs.Stops.{Growth, Stage, Making, Taking, Emptying, Flushing, Stops, HasShown, HasGained, HasGainedPart, made_at, next_stage}
use Rattle.fg_results.proofs.StopLemmas.{first_in}
use Rattle.fg_results.proofs.Zips.{zip_at}

contains_or_not : (xs : List ℕ) (x : ℕ) → Contains xs x ⊎ ¬ Contains xs x
contains_or_not [] x = inr (λ c. absurd (omega (arith, c.1)))
contains_or_not (y ∷ xs) x = ⊎_elim
    (λ here. inl (zero, omega arith, here))
    (λ apart. ⊎_elim
    (λ c. inl (suc c.0, omega (arith, c.1), c.2))
    (λ none. inr (λ c. not_in c.0 c.1 c.2 apart none))
    (contains_or_not xs x))
    (cases_eq y x)
  where
    not_in : (k : ℕ) → k < length (y ∷ xs) → slice_index_or (y ∷ xs) k x ≡ x → (y ≡ x → ⊥) → ¬ Contains xs x → ⊥
    not_in zero within is apart none = apart is
    not_in (suc k) within is apart none = none (k, omega (arith, within), is)

-- What a flow has gained begins its whole lane

module _ (front : ShownIsFront) (one : OneFlowResult) where
  shown_first :
      (playout : Playout) (flow n : ℕ) (records : List Record) (bytes : List ℕ) (result : FlowResult)
      → HasShown playout flow (take n records) bytes → IsFlowResult playout records flow result → IsPrefix bytes result.lane
  shown_first playout flow n records bytes result shown is =
      front playout flow (take n records) (drop n records) bytes result shown
      (subst (λ (all : List Record). IsFlowResult playout all flow result) (sym (take-append-drop n records)) is)

  shown_last :
      (playout : Playout) (flow : ℕ) (records : List Record) (bytes : List ℕ) (result : FlowResult)
      → HasShown playout flow records bytes → IsFlowResult playout records flow result → IsPrefix bytes result.lane
  shown_last playout flow records bytes result shown is =
      front playout flow records [] bytes result shown
      (subst (λ (all : List Record). IsFlowResult playout all flow result) (sym (append-nil records)) is)

  gained_begins :
      (plan : Plan) (records : List Record) (stage : Stage) (flow : ℕ) (bytes : List ℕ) (result : FlowResult)
      → HasGained plan records stage flow bytes → IsFlowResult (playout_of plan) records flow result → IsPrefix bytes result.lane
  gained_begins plan records (Making n) flow bytes result none is =
      subst (λ (some : List ℕ). IsPrefix some result.lane) (sym none) (IsPrefix-nil result.lane)
  gained_begins plan records (Taking n) flow bytes result shown is =
      shown_first (playout_of plan) flow n records bytes result shown is
  gained_begins plan records (Emptying done first next) flow bytes result (inl shown) is =
      shown_first (playout_of plan) flow next records bytes result shown.1 is
  gained_begins plan records (Emptying done first next) flow bytes result (inr shown) is =
      shown_first (playout_of plan) flow first records bytes result shown.1 is
  gained_begins plan records (Flushing n) flow bytes result (inl whole) is = (
    [],
    ap (λ (r : FlowResult). r.lane) (one (playout_of plan) flow records result whole.1.result is whole.1.is_result)
        ∙ sym whole.1.bytes_are ∙ sym (append-nil bytes),
  )
  gained_begins plan records (Flushing n) flow bytes result (inr shown) is =
      shown_last (playout_of plan) flow records bytes result shown.1 is

-- At each stage a flow has gained something

module _ (exist : FlowResultExists) where
  some_shown :
      (playout : Playout) (flow : ℕ) (records : List Record) → 1 ≤ playout.window
      → (bytes : List ℕ) × HasShown playout flow records bytes
  some_shown playout flow records some =
      let is = (exist playout flow records some).1 in (
        lane_of_plays is.run.taken,
        record {
          arrivals = is.arrivals;
          plays = is.run.taken;
          replies = is.replies;
          state = is.run.filled;
          arrive = is.arrive;
          takes = is.run.takes;
          bytes_are = refl;
        },
      )

  some_gained :
      (plan : Plan) (records : List Record) (stage : Stage) (flow : ℕ) → 1 ≤ plan.window
      → (bytes : List ℕ) × HasGained plan records stage flow bytes
  some_gained plan records (Making n) flow some = (([]), refl)
  some_gained plan records (Taking n) flow some = some_shown (playout_of plan) flow (take n records) some
  some_gained plan records (Emptying done first next) flow some = ⊎_elim
      (λ early. (let shown = some_shown (playout_of plan) flow (take next records) some in (shown.0, inl (early, shown.1))))
      (λ later. (let shown = some_shown (playout_of plan) flow (take first records) some in (shown.0, inr (later, shown.1))))
      (contains_or_not (take done plan.table) flow)
  some_gained plan records (Flushing n) flow some = ⊎_elim
      (λ first. (let result = exist (playout_of plan) flow records some in
      (result.0.lane, inl (first, record { result = result.0; is_result = result.1; bytes_are = refl }))))
      (λ later. (let shown = some_shown (playout_of plan) flow records some in (shown.0, inr (later, shown.1))))
      (contains_or_not (take n plan.table) flow)

-- The lanes

-- What holds of each port of a list and its result.
each_part :
    (P : ℕ → FlowResult → Type 0) (old new : Lanes) (ports : List ℕ) (results : List FlowResult) → AllZip P ports results
    → ((port : ℕ) (result : FlowResult) → P port result → LaneGainsPart old new port result.lane)
    → AllZip (LaneGainsPart old new) ports (lanes_of results)
each_part P old new [] [] are f = tt
each_part P old new [] (r ∷ results) are f = absurd are
each_part P old new (p ∷ ports) [] are f = absurd are
each_part P old new (p ∷ ports) (r ∷ results) are f = (f p r are.0, each_part P old new ports results are.1 f)

made_in : (plan : Plan) (stage : Stage) (port : ℕ) → Contains (made_at plan stage) port → Contains plan.table port
made_in plan (Making n) port c = first_in plan.table n port c
made_in plan (Taking n) port c = c
made_in plan (Emptying done first next) port c = c
made_in plan (Flushing n) port c = c

module _ (front : ShownIsFront) (one : OneFlowResult) (exist : FlowResultExists) where
  -- What a broken lane has gained is a part of what the next stage adds.
  piece_begins :
      (plan : Plan) (records : List Record) (stage : Stage) (broken : Option ℕ) (flow : ℕ) (piece : List ℕ) (result : FlowResult)
      → 1 ≤ plan.window → IsFlowResult (playout_of plan) records flow result
      → HasGained plan records stage flow piece ⊎ ((broken ≡ Some flow) × HasGainedPart plan records stage flow piece)
      → IsPrefix piece result.lane
  piece_begins plan records stage broken flow piece result some is (inl gained) =
      gained_begins front one plan records stage flow piece result gained is
  piece_begins plan records stage broken flow piece result some is (inr part) =
      let next = some_gained exist plan records (next_stage stage) flow some in
      IsPrefix-trans piece next.0 result.lane (part.1.next next.0 next.1)
      (gained_begins front one plan records (next_stage stage) flow next.0 result next.1 is)

  lane_part :
      (growth : Growth) (plan : Plan) (answer : Finish) (records : List Record) (before after : Option Lanes) (old new : Lanes)
      → 1 ≤ plan.window → (stops : Stops growth plan answer records before after)
      → LanesGain old (made_at plan stops.stage) stops.pieces new
      → (flow : ℕ) (result : FlowResult) → IsFlowResult (playout_of plan) records flow result
      → Contains (made_at plan stops.stage) flow ⊎ ¬ Contains (made_at plan stops.stage) flow
      → LaneGainsPart old new flow result.lane
  lane_part growth plan answer records before after old new some stops puts flow result is (inl made) =
      let at = zip_at _ _ (made_at plan stops.stage) stops.pieces flow stops.gained puts.lanes made in
      record {
        part = at.0;
        front = piece_begins plan records stops.stage stops.broken flow at.0 result some is at.1;
        bytes = ap (λ lane. unwrap_or lane []) at.2;
        kept = λ _. subst IsSome (sym at.2) refl;
      }
  lane_part growth plan answer records before after old new some stops puts flow result is (inr none) =
      let stays : lane_of new flow ≡ lane_of old flow = puts.others flow none in
      record {
        part = [];
        front = IsPrefix-nil result.lane;
        bytes = ap (λ lane. unwrap_or lane []) stays ∙ sym (append-nil (lane_bytes old flow));
        kept = λ is. subst IsSome (sym stays) is;
      }

  lanes_part :
      (growth : Growth) (plan : Plan) (answer : Finish) (records : List Record) (results : List FlowResult) (before after : Option Lanes) (old new : Lanes)
      → 1 ≤ plan.window → AreResults plan records results → (stops : Stops growth plan answer records before after)
      → LanesGain old (made_at plan stops.stage) stops.pieces new → LanesGainPart old plan.table (lanes_of results) new
  lanes_part growth plan answer records results before after old new some are stops puts = record {
    lanes = each_part (IsFlowResult (playout_of plan) records) old new plan.table results are
        (λ flow result is. lane_part growth plan answer records before after old new some stops puts flow result is
        (contains_or_not (made_at plan stops.stage) flow));
    others = λ other none. puts.others other (λ c. none (made_in plan stops.stage other c));
  }

  pub stops_leave_parts : StopsLeaveParts
  stops_leave_parts growth plan answer records results None None some are stops = tt
  stops_leave_parts growth plan answer records results None (Some new) some are stops = absurd stops.puts
  stops_leave_parts growth plan answer records results (Some old) None some are stops = absurd stops.puts
  stops_leave_parts growth plan answer records results (Some old) (Some new) some are stops =
      lanes_part growth plan answer records results (Some old) (Some new) old new some are stops stops.puts

-- How the flows of a repair are flushed, one after another.
use Rattle.std.proofs.Common.{◌≡◌, ◌⊎◌, inl, inr, ℕ, suc, ◌+◌, ◌<◌, ◌≤◌, ◌^◌, nat_lt, Bool, true, false, Option, Some, None, IsSome, List, [], ◌∷◌, ◌++◌, length, map, set, slice_index, unwrap_or, refl, sym, ap, ◌∙◌, subst, arith}
use Rattle.std.specs.List.{AllZip, Contains, slice_index_or}
use Rattle.std.proofs.lemmas.Bool.{cases_eq}
use Rattle.std.proofs.lemmas.Bool.Decides.{nat_tests}
use Rattle.std.proofs.lemmas.List.{get_or-set_same, get_or-set_other, get_or_default, length-set}
use Rattle.fg_io.specs.Prefix.{IsPrefix}
use Rattle.fg_io.specs.Outlet.{Lanes, lane_of, lane_bytes}
use Rattle.fg_flows.specs.declared.Plan.{Plan}
use Rattle.fg_flows.specs.Flows.{IsTable}
use Rattle.fg_flows.specs.Laws.{OneFlowHasAPort}
use Rattle.fg_flows.specs.Plan.{PlanFits, playout_of}
use Rattle.fg_shape.specs.Playout.{PlayoutFits}
use Rattle.fg_trace.specs.Trace.{Record}
use Rattle.fg_engine.specs.declared.engine.Engine.{Engine}
use Rattle.fg_engine.specs.Engine.{GrowAll, AreThere, FlowStands, FlowEnds, HasCome, IsFlushing, BreaksAtFlush, HasEnded, sums_of}
use Rattle.fg_results.specs.Flow.{FlowResult, IsFlowResult}
use Rattle.fg_results.specs.Lanes.{PutsAll}
use Rattle.fg_results.specs.Repair.{lanes_of}
use Rattle.fg_engine.specs.View.{FlowView}
use Rattle.fg_engine.specs.Steps.{HasTaken, IsUnderway, BeginsLane, EndsFlow, BreaksAtEnd}
use Rattle.fg_results.specs.Stops.{Flushing, HasGained, HasGainedPart}
use Rattle.fg_engine.proofs.Breaking.{shown_of}
use Rattle.fg_engine.proofs.Firsts.{first_has, first_at}
use Rattle.fg_engine.proofs.Lanes.{more, more_same, more_other, grow_more, there_more, contains_at}
use Rattle.fg_engine.proofs.Standing.{moved, flow_taken, ports_differ}

-- Which flows are flushed

none_before : (k : ℕ) → nat_lt k 0 ≡ false
none_before k = grind (arith, nat_tests)

not_yet : (i : ℕ) → nat_lt i i ≡ false
not_yet i = grind (arith, nat_tests)

just_now : (i : ℕ) → nat_lt i (i + 1) ≡ true
just_now i = grind (arith, nat_tests)

as_before : (i k : ℕ) → (k ≡ i → ⊥) → nat_lt k (i + 1) ≡ nat_lt k i
as_before i k ne = grind (arith, nat_tests)

by_now : (i k : ℕ) → k < i → nat_lt k i ≡ true
by_now i k h = grind (arith, nat_tests)

pub flushing_none : {D : Type 0} → (plan : Plan) (records : List Record) (engine : Engine D) (before now : Option Lanes) → HasCome plan records engine before now → IsFlushing plan records 0 engine.flows.items before now
flushing_none plan records engine before now h = record {
  gained = h.gained;
  long = h.stands.count;
  ends = λ k d below. subst (λ b. FlowEnds b plan records (slice_index plan.table k) (slice_index_or engine.flows.items k d) (h.gained (slice_index plan.table k))) (sym (none_before k)) (h.stands.flows k d below);
  grow = h.grow;
  there = h.there;
}

-- The flow that is next

pub next_stands : (plan : Plan) (records : List Record) (i : ℕ) (items : List FlowView) (before now : Option Lanes) (old : FlowView) (h : IsFlushing plan records i items before now) → i < length items → old ≡ slice_index_or items i old → FlowStands plan records (slice_index plan.table i) old (h.gained (slice_index plan.table i))
next_stands plan records i items before now old h short at =
    let flow = slice_index plan.table i in
    let here = h.ends i old (subst (λ n. i < n) h.long short) in
    subst (λ (f : FlowView). FlowStands plan records flow f (h.gained flow)) (sym at)
    (subst (λ b. FlowEnds b plan records flow (slice_index_or items i old) (h.gained flow)) (not_yet i) here)

pub underway : (plan : Plan) → PlanFits plan → (records : List Record) (port : ℕ) (flow : FlowView) (lane : List ℕ) → length records < 2 ^ 43 → FlowStands plan records port flow lane → IsUnderway flow.state.playout flow.sum.port flow.state flow.sum
underway plan fits records port flow lane few h = record {
  records = records;
  lane = lane;
  few = few;
  taken = flow_taken plan records port flow lane h;
  fits = subst PlayoutFits (sym h.playout_is) fits.playout;
}

-- what a flow does when it is flushed whole, or a fault stops it
abbrev pub Ends : FlowView → FlowView → Option Lanes → Option Lanes → Type 0
Ends old new now after =
    (records : List Record) (lane : List ℕ)
    → HasTaken old.state.playout old.sum.port records old.state old.sum lane
    → EndsFlow old.state.playout old.sum.port records lane new.sum now after

abbrev pub Stops : FlowView → Option Lanes → Option Lanes → Type 0
Stops old now after =
    (records : List Record) (lane : List ℕ)
    → HasTaken old.state.playout old.sum.port records old.state old.sum lane
    → BreaksAtEnd old.state.playout old.sum.port records lane now after

flow_ends : (plan : Plan) (records : List Record) (port : ℕ) (old new : FlowView) (lane : List ℕ) (now after : Option Lanes) → Ends old new now after → FlowStands plan records port old lane → EndsFlow (playout_of plan) port records lane new.sum now after
flow_ends plan records port old new lane now after ends h =
    moved (λ w p. EndsFlow w p records lane new.sum now after) old.state.playout (playout_of plan) old.sum.port port
    h.playout_is h.port_is (ends records lane (flow_taken plan records port old lane h))

flow_stops : (plan : Plan) (records : List Record) (port : ℕ) (old : FlowView) (lane : List ℕ) (now after : Option Lanes) → Stops old now after → FlowStands plan records port old lane → BreaksAtEnd (playout_of plan) port records lane now after
flow_stops plan records port old lane now after stops h =
    moved (λ w p. BreaksAtEnd w p records lane now after) old.state.playout (playout_of plan) old.sum.port port
    h.playout_is h.port_is (stops records lane (flow_taken plan records port old lane h))

-- It is flushed

ends_each : OneFlowHasAPort → (plan : Plan) → IsTable plan.table → (records : List Record) (i : ℕ) (items : List FlowView) (gained : ℕ → List ℕ) (new : FlowView) (piece : List ℕ) → i < length items → i < length plan.table → FlowEnds true plan records (slice_index plan.table i) new (gained (slice_index plan.table i) ++ piece) → (k : ℕ) (d : FlowView) → k < length plan.table → FlowEnds (nat_lt k i) plan records (slice_index plan.table k) (slice_index_or items k d) (gained (slice_index plan.table k)) → (k ≡ i) ⊎ (k ≡ i → ⊥) → FlowEnds (nat_lt k (i + 1)) plan records (slice_index plan.table k) (slice_index_or (set items i new) k d) (more gained (slice_index plan.table i) piece (slice_index plan.table k))
ends_each law plan good records i items gained new piece short inside end k d below h (inl e) =
    subst (λ j. FlowEnds (nat_lt j (i + 1)) plan records (slice_index plan.table j) (slice_index_or (set items i new) j d) (more gained (slice_index plan.table i) piece (slice_index plan.table j))) (sym e)
    (subst (λ b. FlowEnds b plan records (slice_index plan.table i) (slice_index_or (set items i new) i d) (more gained (slice_index plan.table i) piece (slice_index plan.table i))) (sym (just_now i))
    (subst (λ (f : FlowView). FlowEnds true plan records (slice_index plan.table i) f (more gained (slice_index plan.table i) piece (slice_index plan.table i))) (sym (get_or-set_same items i new d short))
    (subst (λ (lane : List ℕ). FlowEnds true plan records (slice_index plan.table i) new lane) (sym (more_same gained (slice_index plan.table i) piece)) end)))
ends_each law plan good records i items gained new piece short inside end k d below h (inr ne) =
    subst (λ b. FlowEnds b plan records (slice_index plan.table k) (slice_index_or (set items i new) k d) (more gained (slice_index plan.table i) piece (slice_index plan.table k))) (sym (as_before i k ne))
    (subst (λ (f : FlowView). FlowEnds (nat_lt k i) plan records (slice_index plan.table k) f (more gained (slice_index plan.table i) piece (slice_index plan.table k))) (sym (get_or-set_other items i k new d ne))
    (subst (λ (lane : List ℕ). FlowEnds (nat_lt k i) plan records (slice_index plan.table k) (slice_index_or items k d) lane)
    (sym (more_other gained (slice_index plan.table i) piece (slice_index plan.table k) (ports_differ law plan.table good i k inside below ne))) h))

pub flushing_more :
    OneFlowHasAPort → (plan : Plan) → IsTable plan.table → (records : List Record) (i : ℕ) (items : List FlowView) (before now after : Option Lanes) (old new : FlowView)
    → i < length items → old ≡ slice_index_or items i old → Ends old new now after
    → IsFlushing plan records i items before now → IsFlushing plan records (i + 1) (set items i new) before after
flushing_more law plan good records i items before now after old new short at ends h =
    let flow = slice_index plan.table i in
    let inside : i < length plan.table = subst (λ n. i < n) h.long short in
    let step : EndsFlow (playout_of plan) flow records (h.gained flow) new.sum now after = flow_ends plan records flow old new (h.gained flow) now after ends (next_stands plan records i items before now old h short at) in
    record {
      gained = more h.gained flow step.piece;
      long = length-set items i new ∙ h.long;
      ends = λ k d below. ends_each law plan good records i items h.gained new step.piece short inside step.result k d below (h.ends k d below) (cases_eq k i);
      grow = grow_more before now after plan.table h.gained flow step.piece (contains_at plan.table i inside) h.grow step.grows;
      there = there_more now after plan.table flow step.piece h.there step.grows;
    }

-- A fault

-- What a flow's lane has gained, where the first are flushed.
gained_at :
    OneFlowHasAPort → (plan : Plan) → IsTable plan.table → (records : List Record) (i k : ℕ) (flow : FlowView) (lane : List ℕ) → k < length plan.table → (ended : Bool) → nat_lt k i ≡ ended
    → FlowEnds ended plan records (slice_index plan.table k) flow lane → HasGained plan records (Flushing i) (slice_index plan.table k) lane
gained_at law plan good records i k flow lane inside true e h =
    inl (first_has plan.table i k (grind (arith, nat_tests, e)) inside, record { result = record { lane = lane; sum = flow.sum }; is_result = h; bytes_are = refl })
gained_at law plan good records i k flow lane inside false e h =
    inr (
      λ c.
          let f = first_at plan.table i (slice_index plan.table k) c in
          let below : f.at < i = f.below in
          let past : i ≤ k = grind (arith, nat_tests, e) in
          ports_differ law plan.table good k f.at inside f.inside (λ same. absurd (omega (arith, same))) f.is,
      shown_of (playout_of plan) (slice_index plan.table k) records _ _ lane h.taken,
    )

-- The lane that the fault broke lies between what the flow has shown and its whole lane.
broken_lies : (plan : Plan) (records : List Record) (i : ℕ) (gained : ℕ → List ℕ) (part : List ℕ) → i < length plan.table → HasGained plan records (Flushing i) (slice_index plan.table i) (gained (slice_index plan.table i)) → BeginsLane (playout_of plan) records (slice_index plan.table i) (gained (slice_index plan.table i) ++ part) → HasGainedPart plan records (Flushing i) (slice_index plan.table i) (more gained (slice_index plan.table i) part (slice_index plan.table i))
broken_lies plan records i gained part inside shown begins =
    let flow = slice_index plan.table i in
    let whole : (bytes : List ℕ) → HasGained plan records (Flushing (i + 1)) flow bytes → IsPrefix (gained flow ++ part) bytes = λ bytes h. lies_in plan records i (gained flow ++ part) inside begins bytes h in
    record {
      first = gained flow;
      are = shown;
      begins = (part, more_same gained flow part);
      next = λ bytes h. subst (λ (lane : List ℕ). IsPrefix lane bytes) (sym (more_same gained flow part)) (whole bytes h);
    }
  where
    lies_in : (plan : Plan) (records : List Record) (i : ℕ) (front : List ℕ) → i < length plan.table → BeginsLane (playout_of plan) records (slice_index plan.table i) front → (bytes : List ℕ) → HasGained plan records (Flushing (i + 1)) (slice_index plan.table i) bytes → IsPrefix front bytes
    lies_in plan records i front inside begins bytes (inl whole) = subst (IsPrefix front) (sym whole.1.bytes_are) (begins whole.1.result whole.1.is_result)
    lies_in plan records i front inside begins bytes (inr other) = absurd (other.0 (first_has plan.table (i + 1) i (omega arith) inside))

exact_at :
    OneFlowHasAPort → (plan : Plan) → IsTable plan.table → (records : List Record) (i : ℕ) (items : List FlowView) (before now : Option Lanes) (h : IsFlushing plan records i items before now) → FlowView → (part : List ℕ) → i < length plan.table
    → BeginsLane (playout_of plan) records (slice_index plan.table i) (h.gained (slice_index plan.table i) ++ part)
    → (port : ℕ) → Contains plan.table port → (port ≡ slice_index plan.table i) ⊎ (port ≡ slice_index plan.table i → ⊥)
    → HasGained plan records (Flushing i) port (more h.gained (slice_index plan.table i) part port)
    ⊎ ((Some (slice_index plan.table i) ≡ Some port) × HasGainedPart plan records (Flushing i) port (more h.gained (slice_index plan.table i) part port))
exact_at law plan good records i items before now h any part inside begins port c (inl e) =
    let flow = slice_index plan.table i in
    subst (λ p. HasGained plan records (Flushing i) p (more h.gained flow part p) ⊎ ((Some flow ≡ Some p) × HasGainedPart plan records (Flushing i) p (more h.gained flow part p))) (sym e)
    (inr (
      refl,
      broken_lies plan records i h.gained part inside
          (gained_at law plan good records i i (slice_index_or items i any) (h.gained flow) inside (nat_lt i i) refl (h.ends i any inside)) begins,
    ))
exact_at law plan good records i items before now h any part inside begins port c (inr ne) =
    let flow = slice_index plan.table i in
    let same : slice_index plan.table c.0 ≡ port = get_or_default plan.table c.0 0 port c.1 ∙ c.2 in
    inl (subst (λ (lane : List ℕ). HasGained plan records (Flushing i) port lane) (sym (more_other h.gained flow part port ne))
    (subst (λ p. HasGained plan records (Flushing i) p (h.gained p)) same
    (gained_at law plan good records i c.0 (slice_index_or items c.0 any) (h.gained (slice_index plan.table c.0)) c.1 (nat_lt c.0 i) refl (h.ends c.0 any c.1))))

pub flushing_stops :
    OneFlowHasAPort → (plan : Plan) → IsTable plan.table → (records : List Record) (i : ℕ) (items : List FlowView) (before now after : Option Lanes) (old : FlowView)
    → i < length items → old ≡ slice_index_or items i old → Stops old now after
    → IsFlushing plan records i items before now → BreaksAtFlush plan records before after
flushing_stops law plan good records i items before now after old short at stops h =
    let flow = slice_index plan.table i in
    let inside : i < length plan.table = subst (λ n. i < n) h.long short in
    let step : BreaksAtEnd (playout_of plan) flow records (h.gained flow) now after = flow_stops plan records flow old (h.gained flow) now after stops (next_stands plan records i items before now old h short at) in
    record {
      count = i;
      broken = Some flow;
      gained = more h.gained flow step.part;
      grow = grow_more before now after plan.table h.gained flow step.part (contains_at plan.table i inside) h.grow step.grows;
      there = there_more now after plan.table flow step.part h.there step.grows;
      exact = λ port c. exact_at law plan good records i items before now h old step.part inside step.begins port c (cases_eq port flow);
    }

-- A fault between two flows breaks no lane.
whole_at :
    OneFlowHasAPort → (plan : Plan) → IsTable plan.table → (records : List Record) (i : ℕ) (items : List FlowView) (before now : Option Lanes) (h : IsFlushing plan records i items before now)
    → (port : ℕ) → Contains plan.table port → HasGained plan records (Flushing i) port (h.gained port)
whole_at law plan good records i [] before now h port c = absurd (omega (arith, h.long, c.1))
whole_at law plan good records i (any ∷ items) before now h port c =
    let same : slice_index plan.table c.0 ≡ port = get_or_default plan.table c.0 0 port c.1 ∙ c.2 in
    subst (λ p. HasGained plan records (Flushing i) p (h.gained p)) same
    (gained_at law plan good records i c.0 (slice_index_or (any ∷ items) c.0 any) (h.gained (slice_index plan.table c.0)) c.1 (nat_lt c.0 i) refl (h.ends c.0 any c.1))

pub flushing_whole :
    OneFlowHasAPort → (plan : Plan) → IsTable plan.table → (records : List Record) (i : ℕ) (items : List FlowView) (before now : Option Lanes)
    → IsFlushing plan records i items before now → BreaksAtFlush plan records before now
flushing_whole law plan good records i items before now h = record {
  count = i;
  broken = None;
  gained = h.gained;
  grow = h.grow;
  there = h.there;
  exact = λ port c. inl (whole_at law plan good records i items before now h port c);
}

-- All are flushed

abbrev pub results_of : (ℕ → List ℕ) → List ℕ → List FlowView → List FlowResult
results_of gained [] flows = []
results_of gained (p ∷ ports) [] = []
results_of gained (p ∷ ports) (f ∷ flows) = record { lane = gained p; sum = f.sum } ∷ results_of gained ports flows

each_result : (plan : Plan) (records : List Record) (gained : ℕ → List ℕ) (ports : List ℕ) (flows : List FlowView) → length flows ≡ length ports → ((k : ℕ) (d : FlowView) → k < length ports → FlowEnds true plan records (slice_index ports k) (slice_index_or flows k d) (gained (slice_index ports k))) → AllZip (IsFlowResult (playout_of plan) records) ports (results_of gained ports flows)
each_result plan records gained [] flows long f = tt
each_result plan records gained (p ∷ ports) [] long f = absurd (omega arith)
each_result plan records gained (p ∷ ports) (flow ∷ flows) long f =
    (f 0 flow (omega arith), each_result plan records gained ports flows (omega arith) (λ k d below. f (suc k) d (omega arith)))

each_sum : (gained : ℕ → List ℕ) (ports : List ℕ) (flows : List FlowView) → length flows ≡ length ports → map (λ (r : FlowResult). r.sum) (results_of gained ports flows) ≡ sums_of flows
each_sum gained [] [] long = refl
each_sum gained [] (flow ∷ flows) long = absurd (omega arith)
each_sum gained (p ∷ ports) [] long = absurd (omega arith)
each_sum gained (p ∷ ports) (flow ∷ flows) long = ap (λ t. flow.sum ∷ t) (each_sum gained ports flows (omega arith))

pub some_is : (lane : Option (List ℕ)) (bytes : List ℕ) → IsSome lane → unwrap_or lane [] ≡ bytes → lane ≡ Some bytes
some_is None bytes s e = absurd cc
some_is (Some x) bytes s e = ap Some e

each_lane : (old new : Lanes) (gained : ℕ → List ℕ) (ports : List ℕ) (flows : List FlowView) → length flows ≡ length ports → ((port : ℕ) → Contains ports port → lane_of new port ≡ Some (lane_bytes old port ++ gained port)) → AllZip (λ port piece. lane_of new port ≡ Some (lane_bytes old port ++ piece)) ports (lanes_of (results_of gained ports flows))
each_lane old new gained [] flows long f = tt
each_lane old new gained (p ∷ ports) [] long f = absurd (omega arith)
each_lane old new gained (p ∷ ports) (flow ∷ flows) long f =
    (f p (0, omega arith, refl), each_lane old new gained ports flows (omega arith) (λ port c. f port (suc c.0, omega (arith, c.1), c.2)))

all_put : (ports : List ℕ) (gained : ℕ → List ℕ) (flows : List FlowView) (before after : Option Lanes) → length flows ≡ length ports → GrowAll before ports gained after → AreThere ports after → PutsAll before ports (lanes_of (results_of gained ports flows)) after
all_put ports gained flows (Some old) (Some new) long g t = record {
  lanes = each_lane old new gained ports flows long (λ port c. some_is (lane_of new port) (lane_bytes old port ++ gained port) (t port c) (g.lanes port c).bytes);
  others = g.others;
}
all_put ports gained flows (Some old) None long g t = absurd g
all_put ports gained flows None (Some new) long g t = absurd g
all_put ports gained flows None None long g t = tt

pub flushing_all : (plan : Plan) (records : List Record) (i : ℕ) (items : List FlowView) (before now : Option Lanes) → length items ≤ i → IsFlushing plan records i items before now → HasEnded plan records items before now
flushing_all plan records i items before now all h = record {
  results = results_of h.gained plan.table items;
  are_results = each_result plan records h.gained plan.table items h.long (λ k d below. subst (λ b. FlowEnds b plan records (slice_index plan.table k) (slice_index_or items k d) (h.gained (slice_index plan.table k))) (by_now i k (omega (arith, h.long))) (h.ends k d below));
  sums = each_sum h.gained plan.table items h.long;
  puts = all_put plan.table h.gained items before now h.long h.grow h.there;
}

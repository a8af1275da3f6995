-- What the flows and their lanes come to when a batch is run.
use Rattle.std.proofs.Common.{◌≡◌, ℕ, ◌<◌, ◌^◌, Bool, true, false, cond, List, [], ◌∷◌, ◌++◌, length, slice_index, refl, sym, ap, ◌∙◌, subst, arith, length-append}
use Rattle.std.specs.List.{AllZip, filter}
use Rattle.std.proofs.lemmas.List.Elements.{filter-append}
use Rattle.std.proofs.lemmas.List.Sums.{length-filter, count_by-le-length}
use Rattle.fg_trace.specs.Trace.{Record}
use Rattle.fg_shape.specs.Playout.{Playout, PlayoutFits}
use Rattle.fg_flows.specs.declared.Plan.{Plan}
use Rattle.fg_flows.specs.Plan.{PlanFits, playout_of}
use Rattle.fg_flows.specs.Sheaf.{Item, SheafState, items_of}
use Rattle.fg_playout.specs.State.{State}
use Rattle.fg_report.specs.declared.flow_sum.FlowSum.{FlowSum}
use Rattle.fg_results.specs.Flow.{is_of, records_of, Arrives}
use Rattle.fg_results.proofs.Zips.{zip_length}
use Rattle.fg_engine.specs.Engine.{FlowStands}
use Rattle.fg_engine.specs.Steps.{HasTaken}
use Rattle.fg_engine.proofs.Standing.{moved, flow_taken}
use Rattle.fg_batches.specs.BatchView.{BatchView}
use Rattle.fg_batches.specs.Batches.{IsItemOf, AreItemsOf, CanRun, HasRun, HoldsBatch}
use Rattle.fg_batches.proofs.HeldRecords.{zip_place}

-- A flow's own records, and all

filter_twice : {X : Type 0} (p : X → Bool) (xs : List X) → filter p (filter p xs) ≡ filter p xs
filter_twice p [] = refl
filter_twice {X} p (x ∷ xs) = step (p x) refl (filter_twice p xs)
  where
    step : (b : Bool) → p x ≡ b → filter p (filter p xs) ≡ filter p xs → filter p (cond b (x ∷ filter p xs) (filter p xs)) ≡ cond b (x ∷ filter p xs) (filter p xs)
    step true e ih = ap (λ b. cond b (x ∷ filter p (filter p xs)) (filter p (filter p xs))) e ∙ ap (λ ys. x ∷ ys) ih
    step false e ih = ih

own_of_all : (flow : ℕ) (records batch : List Record) → records_of flow (records ++ records_of flow batch) ≡ records_of flow (records ++ batch)
own_of_all flow records batch =
    filter-append (is_of flow) records (records_of flow batch)
    ∙ ap (λ (rs : List Record). records_of flow records ++ rs) (filter_twice (is_of flow) batch)
    ∙ sym (filter-append (is_of flow) records batch)

taken_of_all : (playout : Playout) (flow : ℕ) (records batch : List Record) (state : State) (sum : FlowSum) (lane : List ℕ) → HasTaken playout flow (records ++ records_of flow batch) state sum lane → HasTaken playout flow (records ++ batch) state sum lane
taken_of_all playout flow records batch state sum lane h = record {
  arrivals = h.arrivals;
  plays = h.plays;
  replies = h.replies;
  arrive = subst (λ (rs : List Record). AllZip (Arrives flow) rs h.arrivals) (own_of_all flow records batch) h.arrive;
  takes = h.takes;
  lane_is = h.lane_is;
  sum_is = h.sum_is;
}

-- A flow that has run its records

items_at : (port other : ℕ) (records : List Record) (items : List Item) → other ≡ port → AllZip (IsItemOf port) records items → AllZip (IsItemOf other) records items
items_at port other records items e zip = subst (λ p. AllZip (IsItemOf p) records items) (sym e) zip

pub ran_stands :
    (plan : Plan) (records batch : List Record) (port : ℕ) (old new : BatchView) (items : List Item) (gained : List ℕ)
    → FlowStands plan records port old.flow gained → old.shelf ≡ [] → AreItemsOf batch port items → HasRun items old new
    → FlowStands plan (records ++ batch) port new.flow (gained ++ new.shelf)
ran_stands plan records batch port old new items gained h empty zip ran =
    let more = ran.run records (records_of port batch) gained (flow_taken plan records port old.flow gained h)
    (items_at port old.flow.sum.port (records_of port batch) items h.port_is zip) in
    let shelf : more.0 ≡ new.shelf = sym (more.1 ∙ ap (λ (bytes : List ℕ). bytes ++ more.0) empty) in
    let taken : HasTaken (playout_of plan) port (records ++ records_of port batch) new.flow.state new.flow.sum (gained ++ more.0) =
    moved (λ w p. HasTaken w p (records ++ records_of port batch) new.flow.state new.flow.sum (gained ++ more.0))
    old.flow.state.playout (playout_of plan) old.flow.sum.port port h.playout_is h.port_is more.2 in
    record {
      port_is = ran.port ∙ h.port_is;
      playout_is = ran.playout ∙ h.playout_is;
      taken = taken_of_all (playout_of plan) port records batch new.flow.state new.flow.sum (gained ++ new.shelf)
          (subst (λ (bytes : List ℕ). HasTaken (playout_of plan) port (records ++ records_of port batch) new.flow.state new.flow.sum (gained ++ bytes)) shelf taken);
    }

-- A flow may run them

pub can_run :
    (plan : Plan) → PlanFits plan → (records batch : List Record) (port : ℕ) (old : BatchView) (items : List Item) (gained : List ℕ)
    → length (records ++ batch) < 2 ^ 43 → FlowStands plan records port old.flow gained → AreItemsOf batch port items → CanRun old.flow (length items)
can_run plan fits records batch port old items gained few h zip =
    let same = zip_length (IsItemOf port) (records_of port batch) items zip in
    let kept = length-filter (is_of port) batch in
    let fewer = count_by-le-length (is_of port) batch in
    let both = length-append records batch in
    record {
      records = records;
      lane = gained;
      few = omega (arith, same, kept, fewer, both, few);
      taken = flow_taken plan records port old.flow gained h;
      fits = subst (λ (w : Playout). PlayoutFits w) (sym h.playout_is) fits.playout;
    }

-- All flows that have run theirs

pub items_there : (plan : Plan) (batch : List Record) (sheaf : SheafState) (k : ℕ) → HoldsBatch plan batch sheaf → k < length plan.table → AreItemsOf batch (slice_index plan.table k) (items_of sheaf k)
items_there plan batch sheaf k holds below = zip_place (AreItemsOf batch) 0 [] plan.table sheaf.items k holds below

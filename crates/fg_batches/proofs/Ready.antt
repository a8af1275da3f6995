-- How a repair in batches begins at the engine, and ends there.
use Rattle.std.proofs.Common.{◌≡◌, ℕ, ◌<◌, Option, None, Result, Ok, Err, IfOk, IfErr, List, [], length, map, slice_index, refl, sym, ap, ◌∙◌, subst}
use Rattle.std.specs.List.{slice_index_or}
use Rattle.std.proofs.lemmas.List.{get_or-map, length-map}
use Rattle.fg_io.specs.declared.fault.Fault.{Fault}
use Rattle.fg_io.specs.declared.fault.Fault.TheVariants.{Memory}
use Rattle.fg_io.specs.Outlet.{Lanes}
use Rattle.fg_trace.specs.declared.step.Finish.{Finish}
use Rattle.fg_trace.specs.Finish.{finish_after}
use Rattle.fg_trace.specs.Laws.{OneTrace, WalksTheFront}
use Rattle.fg_trace.specs.Reader.{ReaderState}
use Rattle.fg_flows.specs.declared.Plan.{Plan}
use Rattle.fg_flows.specs.Sheaf.{no_items}
use Rattle.fg_report.specs.declared.tail.Tail.{Tail}
use Rattle.fg_results.specs.Stops.{ByBatch}
use Rattle.fg_engine.specs.declared.engine.Engine.{Engine}
use Rattle.fg_engine.specs.View.{FlowView}
use Rattle.fg_engine.specs.Engine.{FlowStands, IsAtStart, LanesStop, StandsAtFault, TookAll}
use Rattle.fg_engine.proofs.Standing.{shown_at}
use Rattle.fg_batches.specs.BatchView.{BatchView}
use Rattle.fg_batches.specs.declared.gathering.Gathering.{Gathering}
use Rattle.fg_batches.specs.Gathering.{HasGathered}
use Rattle.fg_batches.specs.Stages.{starved_answer}
use Rattle.fg_batches.specs.Walking.{IsReady, RanAll, unshelved}
use Rattle.fg_batches.proofs.HeldRecords.{holds_none}
use Rattle.fg_batches.proofs.Piped.{stand_shown}
use Rattle.fg_batches.proofs.Stopped.{front_ended, front_standing, shorter_front, stops_between}

-- Before the first batch

none_gathered :
    {D : Type 0} → (plan : Plan) (first left : Option (List ℕ)) (reader : ReaderState) (engine : Engine D) (before now : Option Lanes)
    → IsAtStart plan first left reader engine before now
    → HasGathered plan first left reader [] [] (record { sheaf = no_items (length plan.table); next = None; other = engine.other })
none_gathered plan first left reader engine before now h = record {
  left = [];
  stands = h.stands;
  kept = record { holds = holds_none plan.table; is_left = refl; other = h.come.stands.other };
}

pub begins_ready :
    {D : Type 0} → (plan : Plan) (first left : Option (List ℕ)) (reader : ReaderState) (engine : Engine D) (gathering : Gathering) (flows : List BatchView) (before now : Option Lanes)
    → flows ≡ map unshelved engine.flows.items → gathering ≡ record { sheaf = no_items (length plan.table); next = None; other = engine.other }
    → IsAtStart plan first left reader engine before now → IsReady plan first left reader gathering flows before now
begins_ready plan first left reader engine gathering flows before now flows_are is h =
    let stood = h.come.stands in
    let at : (k : ℕ) (d : BatchView) → k < length plan.table → unshelved (slice_index_or engine.flows.items k d.flow) ≡ slice_index_or flows k d =
    λ k d below. sym (ap (λ (fs : List BatchView). slice_index_or fs k d) flows_are
    ∙ get_or-map unshelved engine.flows.items k d.flow d (subst (λ n. k < n) (sym stood.count) below)) in
    record {
      gathered = subst (λ (g : Gathering). HasGathered plan first left reader [] [] g) (sym is) (none_gathered plan first left reader engine before now h);
      gained = h.come.gained;
      count = ap length flows_are ∙ length-map engine.flows.items unshelved ∙ stood.count;
      stand = λ k d below.
          subst (λ (f : FlowView). FlowStands plan [] (slice_index plan.table k) f (h.come.gained (slice_index plan.table k)))
          (ap (λ (f : BatchView). f.flow) (at k d below)) (stood.flows k d.flow below);
      empty = λ k d below. ap (λ (f : BatchView). f.shelf) (sym (at k d below));
      grow = h.come.grow;
      there = h.come.there;
    }

-- a fault before it
pub begins_stopped :
    {D : Type 0} → WalksTheFront → (plan : Plan) (answer : Finish) (first left : Option (List ℕ)) (reader : ReaderState) (engine : Engine D) (before now : Option Lanes) → reader.max ≡ plan.max
    → IsAtStart plan first left reader engine before now → LanesStop ByBatch plan answer first before now
begins_stopped walks plan answer first left reader engine before now max h =
    stops_between plan answer first [] h.come.gained before now (front_standing walks plan first left reader [] max h.stands)
    (λ port c. shown_at plan [] engine h.come.gained h.come.stands port c) h.come.grow h.come.there

pub ready_stopped :
    WalksTheFront → (plan : Plan) (answer : Finish) (first left : Option (List ℕ)) (reader : ReaderState) (gathering : Gathering) (flows : List BatchView) (before now : Option Lanes) → reader.max ≡ plan.max
    → IsReady plan first left reader gathering flows before now → LanesStop ByBatch plan answer first before now
ready_stopped walks plan answer first left reader gathering flows before now max h =
    stops_between plan answer first [] h.gained before now
    (shorter_front plan first [] h.gathered.left (front_standing walks plan first left reader h.gathered.left max h.gathered.stands))
    (λ port c. stand_shown plan [] flows h.gained h.count h.stand port c) h.grow h.there

-- After the last

pub ends_taken :
    {D : Type 0} → (plan : Plan) (first : Option (List ℕ)) (engine : Engine D) (flows : List BatchView) (other : ℕ) (tail : Tail) (before now : Option Lanes)
    → engine.flows.items ≡ map (λ flow. flow.flow) flows → engine.other ≡ other
    → RanAll plan first flows other tail before now → TookAll plan first engine tail before now
ends_taken plan first engine flows other tail before now are same h =
    let alone : BatchView → FlowView = λ (flow : BatchView). flow.flow in
    record {
      records = h.records;
      end = h.all.end;
      of_input = h.all.of_input;
      tells = h.all.tells;
      few = h.all.few;
      come = record {
        gained = h.gained;
        stands = record {
          count = ap length are ∙ length-map flows alone ∙ h.count;
          flows = λ k d below.
              subst (λ (f : FlowView). FlowStands plan h.records (slice_index plan.table k) f (h.gained (slice_index plan.table k)))
              (sym (ap (λ (fs : List FlowView). slice_index_or fs k d) are ∙ get_or-map alone flows k (unshelved d) d (subst (λ n. k < n) (sym h.count) below)))
              (h.stand k (unshelved d) below);
          other = same ∙ h.all.other;
        };
        grow = h.grow;
        there = h.there;
      };
    }

-- a fault after it
pub ends_stopped :
    OneTrace → (plan : Plan) (answer : Finish) (first : Option (List ℕ)) (flows : List BatchView) (other : ℕ) (tail : Tail) (before now : Option Lanes)
    → RanAll plan first flows other tail before now → LanesStop ByBatch plan answer first before now
ends_stopped one plan answer first flows other tail before now h =
    stops_between plan answer first h.records h.gained before now (front_ended one plan first h.records h.all.end h.all.of_input)
    (λ port c. stand_shown plan h.records flows h.gained h.count h.stand port c) h.grow h.there

-- Where memory is wanting then

pub starved_stops :
    OneTrace → (plan : Plan) (flows : List BatchView) (other : ℕ) (now : Option Lanes) (Ready At : Option (List ℕ) → Option Lanes → Type 0) (taken : Result Tail Fault)
    → ((first : Option (List ℕ)) (before : Option Lanes) → At first before → Ready first before)
    → IfOk taken (λ tail. (first : Option (List ℕ)) (before : Option Lanes) → Ready first before → RanAll plan first flows other tail before now)
    → IfErr taken (λ fault. (first : Option (List ℕ)) (before : Option Lanes) → Ready first before → LanesStop ByBatch plan (finish_after fault) first before now)
    → IfErr (starved_answer taken) (λ fault. (first : Option (List ℕ)) (before : Option Lanes) → At first before → LanesStop ByBatch plan (finish_after fault) first before now)
starved_stops one plan flows other now Ready At (Ok tail) ready whole stops = λ first before at.
    ends_stopped one plan (finish_after Memory) first flows other tail before now (whole first before (ready first before at))
starved_stops one plan flows other now Ready At (Err fault) ready whole stops = λ first before at. stops first before (ready first before at)

pub starved_at_read :
    (plan : Plan) (now : Option Lanes) (Ready At : Option (List ℕ) → Option Lanes → Type 0) (rest : Option (List ℕ)) (taken : Result Tail Fault)
    → ((first : Option (List ℕ)) (before : Option Lanes) → At first before → Ready first before)
    → IfErr taken (λ fault. (first : Option (List ℕ)) (before : Option Lanes) → Ready first before → StandsAtFault plan fault first rest before now)
    → IfErr (starved_answer taken) (λ fault. (first : Option (List ℕ)) (before : Option Lanes) → At first before → StandsAtFault plan fault first rest before now)
starved_at_read plan now Ready At rest (Ok tail) ready reads = λ first before at read. absurd cc
starved_at_read plan now Ready At rest (Err fault) ready reads = λ first before at. reads first before (ready first before at)

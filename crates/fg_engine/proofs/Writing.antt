-- How the lanes of a trace are written, from its magic on.
use Rattle.std.proofs.Common.{◌≡◌, inl, inr, ℕ, Option, Some, None, IfSome, Result, Ok, Err, IfErr, List, [], sym, ◌∙◌, subst, arith}
use Rattle.fg_io.specs.declared.fault.Fault.{Fault}
use Rattle.fg_io.specs.Outlet.{Lanes}
use Rattle.fg_flows.specs.declared.Plan.{Plan}
use Rattle.fg_flows.specs.Plan.{PlanFits}
use Rattle.fg_report.specs.declared.tail.Tail.{Tail}
use Rattle.fg_trace.specs.declared.step.Finish.{Finish}
use Rattle.fg_trace.specs.declared.step.Finish.TheVariants as finish
use Rattle.fg_trace.specs.Finish.{finish_after}
use Rattle.fg_trace.specs.Laws.{OneTrace}
use Rattle.fg_trace.specs.Reader.{ReaderState, StandsAfter}
use Rattle.fg_trace.specs.Trace.{Record, Ending, IsTrace}
use Rattle.fg_engine.specs.declared.engine.Engine.{Engine}
use Rattle.fg_engine.specs.Engine.{GrowAll, AreThere, MakesFirst, EngineStands, LanesStop, HasWalked, TookAll, AreReady, IsFlushing, BreaksAtFlush, HasEnded, LanesWhole}
use Rattle.fg_engine.proofs.Flushing.{flushing_none}
use Rattle.fg_engine.proofs.Lanes.{grow_none}
use Rattle.fg_results.specs.Stops.{Growth, LeavesWhole, Stops, StopsIn, Flushing}
use Rattle.fg_results.proofs.StopLemmas.{may_flush}
use Rattle.fg_engine.proofs.Stopping.{making_stops, stops_at}
use Rattle.fg_engine.specs.View.{FlowView}
use Rattle.fg_engine.proofs.Walking.{others_told}

-- Before any record

nothing_stops : (growth : Growth) (plan : Plan) (answer : Finish) (first : Option (List ℕ)) (before after : Option Lanes) → MakesFirst plan.table before after → StopsIn growth plan answer first before after
nothing_stops growth plan answer None before after h = tt
nothing_stops growth plan answer (Some bytes) before after h = λ records end trace. making_stops growth plan answer records before after h

pub making_lanes_stops : (growth : Growth) (plan : Plan) (answer : Finish) (first : Option (List ℕ)) (before after : Option Lanes) → GrowAll before plan.table (λ _. []) after → MakesFirst plan.table before after → LanesStop growth plan answer first before after
making_lanes_stops growth plan answer first before after g h = record {
  others = others_told plan.table (λ _. []) before after g;
  stops = nothing_stops growth plan answer first before after h;
}

-- where no lane is made yet
none_there : (lanes : Option Lanes) → AreThere [] lanes
none_there None = tt
none_there (Some told) = λ port c. absurd (omega (arith, c.1))

pub none_stops : (growth : Growth) (plan : Plan) (answer : Finish) (first : Option (List ℕ)) (lanes : Option Lanes) → LanesStop growth plan answer first lanes lanes
none_stops growth plan answer first lanes =
    making_lanes_stops growth plan answer first lanes lanes (grow_none lanes plan.table) (record { count = 0; grow = grow_none lanes []; there = none_there lanes })

-- whatever fault a call answers that has made no lane, or the first of them
pub none_stop_any : {T : Type 0} → (r : Result T Fault) (plan : Plan) (lanes : Option Lanes) → IfErr r (λ fault. (growth : Growth) (first : Option (List ℕ)) → LanesStop growth plan (finish_after fault) first lanes lanes)
none_stop_any (Ok x) plan lanes = tt
none_stop_any (Err fault) plan lanes = λ growth first. none_stops growth plan (finish_after fault) first lanes

pub making_stop_any : {T : Type 0} → (r : Result T Fault) (plan : Plan) (before after : Option Lanes) → GrowAll before plan.table (λ _. []) after → MakesFirst plan.table before after → IfErr r (λ fault. (growth : Growth) (first : Option (List ℕ)) → LanesStop growth plan (finish_after fault) first before after)
making_stop_any (Ok x) plan before after grow makes = tt
making_stop_any (Err fault) plan before after grow makes = λ growth first. making_lanes_stops growth plan (finish_after fault) first before after grow makes

pub begun : {D : Type 0} → (plan : Plan) (first left : Option (List ℕ)) (reader : ReaderState) (engine : Engine D) (before now : Option Lanes) → EngineStands plan [] engine (λ _. []) → GrowAll before plan.table (λ _. []) now → AreThere plan.table now → StandsAfter reader first left [] → HasWalked plan first left reader engine before now
begun plan first left reader engine before now new grow there stands = record {
  records = [];
  stands = stands;
  come = record { gained = λ _. []; stands = new; grow = grow; there = there };
}

-- After all records

pub took_flushing : {D : Type 0} → (plan : Plan) (first : Option (List ℕ)) (engine : Engine D) (tail : Tail) (before now : Option Lanes) (flows : List FlowView) → flows ≡ engine.flows.items → (t : TookAll plan first engine tail before now) → IsFlushing plan t.records 0 flows before now
took_flushing plan first engine tail before now flows e t = subst (λ (fs : List FlowView). IsFlushing plan t.records 0 fs before now) (sym e) (flushing_none plan t.records engine before now t.come)

pub ready : {D : Type 0} → (plan : Plan) → PlanFits plan → (first : Option (List ℕ)) (engine : Engine D) (tail : Tail) (before now : Option Lanes) (flows : List FlowView) → flows ≡ engine.flows.items → TookAll plan first engine tail before now → AreReady flows now
ready plan fits first engine tail before now flows e h = record {
  plan = plan;
  records = h.records;
  before = before;
  fits = fits;
  few = h.few;
  flushing = took_flushing plan first engine tail before now flows e h;
}

flush_loud : (growth : Growth) (answer : Finish) (n : ℕ) → (answer ≡ finish.ReadFault → ⊥) → LeavesWhole growth answer (Flushing n) → ⊥
flush_loud growth answer n loud (inl read) = loud read
flush_loud growth answer n loud (inr whole) = whole.1

flush_stop : OneTrace → (growth : Growth) (plan : Plan) (answer : Finish) → (answer ≡ finish.ReadFault → ⊥) → (first : Option (List ℕ)) (records : List Record) (end : Ending) (before after : Option Lanes) → IfSome first (λ bytes. IsTrace bytes plan.max records end) → BreaksAtFlush plan records before after → StopsIn growth plan answer first before after
flush_stop law growth plan answer loud None records end before after trace h = tt
flush_stop law growth plan answer loud (Some bytes) records end before after trace h = λ all other k.
    subst (λ (rs : List Record). Stops growth plan answer rs before after) (sym (law bytes plan.max all records other end k trace).0)
    (stops_at growth plan answer records (Flushing h.count) h.broken h.gained before after (may_flush growth answer h.count) (λ whole. absurd (flush_loud growth answer h.count loud whole)) h.exact h.grow h.there)

pub flush_stops : {D : Type 0} → OneTrace → (growth : Growth) (plan : Plan) (answer : Finish) → (answer ≡ finish.ReadFault → ⊥) → (first : Option (List ℕ)) (engine : Engine D) (tail : Tail) (before now after : Option Lanes) (t : TookAll plan first engine tail before now) → BreaksAtFlush plan t.records before after → LanesStop growth plan answer first before after
flush_stops law growth plan answer loud first engine tail before now after t h = record {
  others = others_told plan.table h.gained before after h.grow;
  stops = flush_stop law growth plan answer loud first t.records t.end before after t.of_input h;
}

pub all_whole : {D : Type 0} → (plan : Plan) (first : Option (List ℕ)) (engine ended : Engine D) (tail : Tail) (before now after : Option Lanes) (flows : List FlowView) (t : TookAll plan first engine tail before now) → ended.flows.items ≡ flows → ended.other ≡ engine.other → HasEnded plan t.records flows before after → LanesWhole plan first ended tail before after
all_whole plan first engine ended tail before now after flows t items other h = record {
  records = t.records;
  end = t.end;
  of_input = t.of_input;
  tells = t.tells;
  ended = subst (λ (fs : List FlowView). HasEnded plan t.records fs before after) (sym items) h;
  other = other ∙ t.come.stands.other;
}

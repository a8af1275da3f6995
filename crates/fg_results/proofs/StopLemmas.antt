-- Where a repair stops: the first ports of its list, and lanes that are whole.
use Rattle.std.proofs.Common.{◌≡◌, ◌⊎◌, inl, ℕ, suc, Option, None, Some, List, [], ◌∷◌, length, take, drop, refl, sym, subst, arith}
use Rattle.std.specs.List.{AllZip, Contains}
use Rattle.std.proofs.lemmas.List.{take_all, take-append-drop}
use Rattle.std.proofs.lemmas.List.Elements.{Contains-append_left}
use Rattle.fg_io.specs.Outlet.{Lanes}
use Rattle.fg_trace.specs.declared.step.Finish.{Finish}
use Rattle.fg_trace.specs.Trace.{Record}
use Rattle.fg_flows.specs.declared.Plan.{Plan}
use Rattle.fg_flows.specs.Plan.{playout_of}
use Rattle.fg_results.specs.Flow.{FlowResult, IsFlowResult}
use Rattle.fg_results.specs.Lanes.{PutsAll}
use Rattle.fg_results.specs.Repair.{AreResults, lanes_of}
use Rattle.fg_results.specs.Stops.{Growth, ByRecord, ByBatch, Making, Taking, Flushing, MayStopAt, Stops, HasGained, HasGainedPart}

-- Each port of a list is among the first of it that are as many as it has.
pub first_all : (ports : List ℕ) (port : ℕ) → Contains ports port → Contains (take (length ports) ports) port
first_all ports port c = subst (λ (all : List ℕ). Contains all port) (sym (take_all (length ports) ports (omega arith))) c

-- What is among the first of a list is in it.
pub first_in : (ports : List ℕ) (i port : ℕ) → Contains (take i ports) port → Contains ports port
first_in ports i port c =
    subst (λ (all : List ℕ). Contains all port) (take-append-drop i ports) (Contains-append_left (take i ports) (drop i ports) port c)

-- Where the flows of some ports are flushed, their whole lanes are what they have gained.
pub each_whole :
    (plan : Plan) (records : List Record) (broken : Option ℕ) (n : ℕ) (ports : List ℕ) (results : List FlowResult)
    → AllZip (IsFlowResult (playout_of plan) records) ports results
    → ((port : ℕ) → Contains ports port → Contains (take n plan.table) port)
    → AllZip (λ flow piece. HasGained plan records (Flushing n) flow piece
    ⊎ ((broken ≡ Some flow) × HasGainedPart plan records (Flushing n) flow piece)) ports (lanes_of results)
each_whole plan records broken n [] [] h f = tt
each_whole plan records broken n [] (r ∷ results) h f = absurd h
each_whole plan records broken n (p ∷ ports) [] h f = absurd h
each_whole plan records broken n (p ∷ ports) (r ∷ results) h f = (
  inl (inl (f p (0, omega arith, refl), record { result = r; is_result = h.0; bytes_are = refl })),
  each_whole plan records broken n ports results h.1 (λ port c. f port (suc c.0, omega (arith, c.1), c.2)),
)

-- Where lanes may stop, in whichever way they grow

pub may_make : (growth : Growth) (answer : Finish) (n : ℕ) → MayStopAt growth answer (Making n)
may_make ByRecord answer n = tt
may_make ByBatch answer n = tt

pub may_take : (growth : Growth) (answer : Finish) (n : ℕ) → MayStopAt growth answer (Taking n)
may_take ByRecord answer n = tt
may_take ByBatch answer n = tt

pub may_flush : (growth : Growth) (answer : Finish) (n : ℕ) → MayStopAt growth answer (Flushing n)
may_flush ByRecord answer n = tt
may_flush ByBatch answer n = tt

-- A repair whose lanes are whole stops where all flows are flushed, whatever it answers.
pub stops_whole :
    (growth : Growth) (plan : Plan) (answer : Finish) (records : List Record) (results : List FlowResult) (lanes lanes' : Option Lanes)
    → AreResults plan records results → PutsAll lanes plan.table (lanes_of results) lanes' → Stops growth plan answer records lanes lanes'
stops_whole growth plan answer records results lanes lanes' are puts = record {
  stage = Flushing (length plan.table);
  may = may_flush growth answer (length plan.table);
  broken = None;
  unbroken = λ _. refl;
  pieces = lanes_of results;
  gained = each_whole plan records None (length plan.table) plan.table results are (first_all plan.table);
  puts = puts;
}

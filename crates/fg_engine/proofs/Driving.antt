-- What came of taking the records of a repair that has begun, by what the taking promises.
use Rattle.std.proofs.Common.{◌≡◌, inr, ℕ, Option, Result, Ok, Err, IfOk, IfErr, List, [], ◌∷◌, refl, subst, arith}
use Rattle.fg_io.specs.declared.fault.Fault.{Fault}
use Rattle.fg_io.specs.Faults.{CountsFaults}
use Rattle.fg_io.specs.Outlet.{Lanes}
use Rattle.fg_trace.specs.declared.step.Finish.{Finish}
use Rattle.fg_trace.specs.declared.step.Finish.TheVariants as finish
use Rattle.fg_trace.specs.Finish.{finish_after}
use Rattle.fg_trace.specs.Reader.{ReaderState}
use Rattle.fg_trace.specs.Reading.{HasReached}
use Rattle.fg_flows.specs.declared.Plan.{Plan}
use Rattle.fg_report.specs.declared.tail.Tail.{Tail}
use Rattle.fg_results.specs.Counted.{RepairCounts}
use Rattle.fg_results.specs.Stops.{Growth}
use Rattle.fg_results.proofs.CountLemmas.{by_record_counts_in_any_way}
use Rattle.fg_engine.specs.declared.engine.Engine.{Engine}
use Rattle.fg_engine.specs.declared.records.Begun.{Begun}
use Rattle.fg_engine.specs.Driver.{PartCounts, HasBegun, HasTakenAll}
use Rattle.fg_engine.specs.Engine.{HasWalked, IsAtStart, HasRead, TookAll, LanesStop, StandsAtFault, told_finish}

-- What a taking asks to begin at.
abbrev pub Begins : Type 1
Begins = Option (List ℕ) → Option Lanes → Type 0

whole_taken :
    {D : Type 0} → (At : Begins) (plan : Plan) (first : Option (List ℕ)) (engine : Engine D) (before after : Option Lanes)
    (taken : Result Tail Fault) → At first before
    → IfOk taken (λ tail. (first : Option (List ℕ)) (before : Option Lanes) → At first before → TookAll plan first engine tail before after)
    → IfOk taken (λ tail. TookAll plan first engine tail before after)
whole_taken At plan first engine before after (Ok tail) at whole = whole first before at
whole_taken At plan first engine before after (Err fault) at whole = tt

stops_taken :
    (At : Begins) (growth : Growth) (plan : Plan) (first : Option (List ℕ)) (before after : Option Lanes) (taken : Result Tail Fault) → At first before
    → IfErr taken (λ fault. (first : Option (List ℕ)) (before : Option Lanes) → At first before → LanesStop growth plan (finish_after fault) first before after)
    → IfErr taken (λ fault. LanesStop growth plan (finish_after fault) first before after)
stops_taken At growth plan first before after (Ok tail) at stops = tt
stops_taken At growth plan first before after (Err fault) at stops = stops first before at

fault_taken :
    (At : Begins) (plan : Plan) (first left : Option (List ℕ)) (before after : Option Lanes) (taken : Result Tail Fault) → At first before
    → IfErr taken (λ fault. (first : Option (List ℕ)) (before : Option Lanes) → At first before → StandsAtFault plan fault first left before after)
    → IfErr taken (λ fault. StandsAtFault plan fault first left before after)
fault_taken At plan first left before after (Ok tail) at reads = tt
fault_taken At plan first left before after (Err fault) at reads = reads first before at

pub taken_all :
    {D : Type 0} → (At : Begins) (growth : Growth) (plan : Plan) (first now left : Option (List ℕ)) (begun : Begun D) (engine : Engine D) (reader : ReaderState)
    (before made after : Option Lanes) (taken : Result Tail Fault) → HasBegun plan first now begun before made → At first before
    → IfOk taken (λ tail. (first : Option (List ℕ)) (before : Option Lanes) → At first before → TookAll plan first engine tail before after)
    → IfErr taken (λ fault. (first : Option (List ℕ)) (before : Option Lanes) → At first before → LanesStop growth plan (finish_after fault) first before after)
    → IfErr taken (λ fault. (first : Option (List ℕ)) (before : Option Lanes) → At first before → StandsAtFault plan fault first left before after)
    → ((first : Option (List ℕ)) → HasRead plan.max begun.reader first now → HasRead plan.max reader first left)
    → IfOk taken (λ tail. HasReached (told_finish tail) reader left)
    → HasTakenAll growth plan first left (record begun { engine = engine; reader = reader }) before after taken
taken_all At growth plan first now left begun engine reader before made after taken h at whole stops reads far reaches = record {
  magic = h.magic;
  whole = whole_taken At plan first engine before after taken at whole;
  stops = stops_taken At growth plan first before after taken at stops;
  at_read = fault_taken At plan first left before after taken at reads;
  far = far first h.far;
  reaches = reaches;
}

-- Where no record was taken, the reader stands after those that were.
pub walked_none :
    {D : Type 0} → (plan : Plan) (first now : Option (List ℕ)) (reader : ReaderState) (engine : Engine D) (before after : Option Lanes)
    → IsAtStart plan first now reader engine before after → HasWalked plan first now reader engine before after
walked_none plan first now reader engine before after h = record { records = []; stands = h.stands; come = h.come }

-- Where nothing was counted before it, what it counted was counted in all.
pub taken_counts :
    {A : Type 0} → (growth : Growth) (taken : Result A Fault) (s s' s'' k k' k'' : ℕ) → s' ≡ s → k' ≡ k
    → PartCounts growth taken ((s', s'') ∷ []) ((k', k'') ∷ []) → PartCounts growth taken ((s, s'') ∷ []) ((k, k'') ∷ [])
taken_counts growth taken s s' s'' k k' k'' reads writes h =
    subst (λ n. PartCounts growth taken ((s, s'') ∷ []) ((n, k'') ∷ [])) writes
    (subst (λ n. PartCounts growth taken ((n, s'') ∷ []) ((k', k'') ∷ [])) reads h)

-- Where it has ended before its lanes were made, the sink of the report has counted nothing.
pub ended_counts :
    (growth : Growth) (answer : Finish) (s s' report k k' : ℕ)
    → CountsFaults (answer ≡ finish.ReadFault) (answer ≡ finish.WriteFault) ((s, s') ∷ []) ((k, k') ∷ [])
    → RepairCounts growth answer ((s, s') ∷ []) ((report, report) ∷ (k, k') ∷ [])
ended_counts growth answer s s' report k k' h = by_record_counts_in_any_way growth answer ((s, s') ∷ []) ((report, report) ∷ (k, k') ∷ [])
    (record {
      read = h.read;
      write = λ is. inr (h.write is);
      no_read = h.no_read;
      no_write = λ none. (refl, h.no_write none);
      rise = h.rise;
      sinks_rise = (omega arith, h.sinks_rise);
    })

-- Where it has not begun for want of memory, nothing has.
pub none_counted :
    (growth : Growth) (s report k : ℕ) → RepairCounts growth finish.Memory ((s, s) ∷ []) ((report, report) ∷ (k, k) ∷ [])
none_counted growth s report k = by_record_counts_in_any_way growth finish.Memory ((s, s) ∷ []) ((report, report) ∷ (k, k) ∷ [])
    (record {
      read = λ is. absurd (cc is);
      write = λ is. absurd (cc is);
      no_read = λ _. refl;
      no_write = λ _. (refl, refl);
      rise = omega arith;
      sinks_rise = (omega arith, omega arith);
    })

-- How the records of a trace are taken, from where the reader stands.
use Rattle.std.proofs.Common.{◌≡◌, inl, inr, ℕ, Option, Some, None, IfSome, Ok, Err, List, [], ◌∷◌, ◌++◌, length, refl, sym, subst}
use Rattle.fg_io.specs.Outlet.{Lanes, WhereTold}
use Rattle.fg_flows.specs.declared.Plan.{Plan}
use Rattle.fg_flows.specs.Plan.{PlanFits}
use Rattle.fg_report.specs.declared.tail.Tail.{Tail}
use Rattle.fg_trace.specs.declared.step.Finish.{Finish}
use Rattle.fg_trace.specs.declared.step.Finish.TheVariants as finish
use Rattle.fg_trace.specs.declared.step.Step.TheVariants.{Datagram}
use Rattle.fg_trace.specs.declared.step.TraceFault.{TraceFault}
use Rattle.fg_trace.specs.Laws.{AnsweredIsLongest, WalksTheFront}
use Rattle.fg_trace.proofs.Opening.{stands_still}
use Rattle.fg_trace.specs.Reader.{Answer, ReaderState, StandsAfter, Walks}
use Rattle.fg_trace.specs.Reading.{HoldsNext}
use Rattle.fg_trace.specs.Trace.{Record, Ending, IsTrace}
use Rattle.fg_results.proofs.FlowRecords.{few_records}
use Rattle.fg_engine.specs.declared.engine.Engine.{Engine}
use Rattle.fg_engine.specs.Engine.{LanesGrow, GrowAll, IsRunning, HasCome, BreaksAfter, LanesStop, HasWalked, TookAll, TellsTail}
use Rattle.fg_results.specs.Lanes.{OthersStay}
use Rattle.fg_results.specs.Stops.{Growth, ByRecord, LeavesWhole, StandsAtRead, StopsIn, Taking}
use Rattle.fg_results.proofs.AtRead.{shown_at_read}
use Rattle.fg_engine.proofs.Lanes.{told_map}
use Rattle.fg_engine.proofs.Standing.{shown_at}
use Rattle.fg_engine.proofs.Stopping.{Follows, lanes_show, taking_stops}

pub running : {D : Type 0} → (plan : Plan) → PlanFits plan → (first now : Option (List ℕ)) (reader : ReaderState) (engine : Engine D) (before after : Option Lanes) → reader.max ≡ plan.max → HasWalked plan first now reader engine before after → IsRunning plan engine
running plan fits first now reader engine before after max h = record {
  records = h.records;
  gained = h.come.gained;
  stands = h.come.stands;
  few = few_records plan fits first now reader h.records max h.stands;
}

-- Where a fault stops it

pub others_told : (ports : List ℕ) (gained : ℕ → List ℕ) (before after : Option Lanes) → GrowAll before ports gained after → WhereTold (OthersStay ports) before after
others_told ports gained before after g = told_map (λ old new. LanesGrow old ports gained new) (OthersStay ports) (λ old new h. h.others) before after g

break_stop : WalksTheFront → (growth : Growth) (plan : Plan) (answer : Finish) (first now : Option (List ℕ)) (reader : ReaderState) (taken records : List Record) (broken : Option ℕ) (before after : Option Lanes) → reader.max ≡ plan.max → StandsAfter reader first now records → (LeavesWhole growth answer (Taking (length taken)) → broken ≡ None) → Follows taken records broken → BreaksAfter plan taken records broken before after → StopsIn growth plan answer first before after
break_stop law growth plan answer None now reader taken records broken before after max stands quiet follows h = tt
break_stop law growth plan answer (Some bytes) now reader taken records broken before after max stands quiet follows h = λ all end trace.
    taking_stops growth plan answer all taken records broken before after quiet follows
    (law reader bytes now records all end stands (subst (λ n. IsTrace bytes n all end) (sym max) trace)) h

pub broken_stop : WalksTheFront → (growth : Growth) (plan : Plan) (answer : Finish) (first now : Option (List ℕ)) (reader : ReaderState) (taken records : List Record) (broken : Option ℕ) (before after : Option Lanes) → reader.max ≡ plan.max → StandsAfter reader first now records → (LeavesWhole growth answer (Taking (length taken)) → broken ≡ None) → Follows taken records broken → BreaksAfter plan taken records broken before after → LanesStop growth plan answer first before after
broken_stop law growth plan answer first now reader taken records broken before after max stands quiet follows h = record {
  others = others_told plan.table h.gained before after h.grow;
  stops = break_stop law growth plan answer first now reader taken records broken before after max stands quiet follows h;
}

-- A record

by_record_loud : (fault : Finish) (n : ℕ) → (fault ≡ finish.ReadFault → ⊥) → LeavesWhole ByRecord fault (Taking n) → ⊥
by_record_loud fault n loud (inl read) = loud read
by_record_loud fault n loud (inr whole) = whole.1

pub stop_at_record :
    {D : Type 0} → WalksTheFront → (plan : Plan) (fault : Finish) → (fault ≡ finish.ReadFault → ⊥) → (first left now : Option (List ℕ)) (reader next : ReaderState) (engine : Engine D) (before at after : Option Lanes) (answer : Answer) (time port size : ℕ) (datagram : List ℕ)
    → next.max ≡ plan.max → answer ≡ Ok (Datagram time port size) → datagram ≡ next.payload
    → ((records : List Record) → StandsAfter reader first left records → Walks answer next first now records)
    → ((records : List Record) (r : Record) → HasCome plan records engine before at → r.port ≡ port → r.time ≡ time → r.datagram ≡ datagram → (broken : Option ℕ) × BreaksAfter plan records (records ++ r ∷ []) broken before after)
    → HasWalked plan first left reader engine before at → LanesStop ByRecord plan fault first before after
stop_at_record law plan fault loud first left now reader next engine before at after answer time port size datagram max is payload walks breaks h =
    let r : Record = record { time = time; port = port; datagram = next.payload } in
    let stands : StandsAfter next first now (h.records ++ r ∷ []) = subst (λ (a : Answer). Walks a next first now h.records) is (walks h.records h.stands) in
    let off = breaks h.records r h.come refl refl (sym payload) in
    broken_stop law ByRecord plan fault first now next h.records (h.records ++ r ∷ []) off.0 before after max stands (λ whole. absurd (by_record_loud fault (length h.records) loud whole)) (inr (r, refl)) off.1

-- A read fault

come_breaks : {D : Type 0} → (plan : Plan) (records : List Record) (engine : Engine D) (before after : Option Lanes) → HasCome plan records engine before after → BreaksAfter plan records records None before after
come_breaks plan records engine before after h = record {
  gained = h.gained;
  grow = h.grow;
  there = h.there;
  exact = λ flow c. inl (shown_at plan records engine h.gained h.stands flow c);
}

pub stop_at_fault :
    {D : Type 0} → WalksTheFront → (growth : Growth) (plan : Plan) (answer : Finish) (first left now : Option (List ℕ)) (reader next : ReaderState) (engine : Engine D) (before at : Option Lanes) (why : TraceFault)
    → next.max ≡ plan.max → ((records : List Record) → StandsAfter reader first left records → Walks (Err why) next first now records)
    → HasWalked plan first left reader engine before at → LanesStop growth plan answer first before at
stop_at_fault law growth plan answer first left now reader next engine before at why max walks h =
    broken_stop law growth plan answer first now next h.records h.records None before at max (stands_still next first now h.records why (walks h.records h.stands)) (λ quiet. refl) (inl (refl, refl)) (come_breaks plan h.records engine before at h.come)

pub stands_at_read :
    {D : Type 0} → AnsweredIsLongest → (plan : Plan) (first left now : Option (List ℕ)) (reader next : ReaderState) (engine : Engine D) (before at : Option Lanes) (why : TraceFault)
    → next.max ≡ plan.max → ((records : List Record) → StandsAfter reader first left records → Walks (Err why) next first now records) → (HoldsNext next → ⊥)
    → HasWalked plan first left reader engine before at → IfSome first (λ bytes. StandsAtRead plan bytes now before at)
stands_at_read law plan first left now reader next engine before at why max walks none h =
    shown_at_read law plan first now next h.records before at max (stands_still next first now h.records why (walks h.records h.stands)) none
    (lanes_show plan h.records h.come.gained before at (shown_at plan h.records engine h.come.gained h.come.stands) h.come.grow h.come.there)

-- The end

pub ended : (plan : Plan) (first : Option (List ℕ)) (reader : ReaderState) (records : List Record) (end : Ending) → reader.max ≡ plan.max → IfSome first (λ bytes. IsTrace bytes reader.max records end) → IfSome first (λ bytes. IsTrace bytes plan.max records end)
ended plan first reader records end max h = subst (λ n. IfSome first (λ bytes. IsTrace bytes n records end)) max h

pub took_all :
    {D : Type 0} → (plan : Plan) → PlanFits plan → (first left now : Option (List ℕ)) (reader next : ReaderState) (engine : Engine D) (before at : Option Lanes) (end : Ending) (told : Tail)
    → next.max ≡ plan.max → TellsTail end told
    → ((records : List Record) → StandsAfter reader first left records → StandsAfter next first now records × IfSome first (λ bytes. IsTrace bytes next.max records end))
    → HasWalked plan first left reader engine before at → TookAll plan first engine told before at
took_all plan fits first left now reader next engine before at end told max tells walks h = record {
  records = h.records;
  end = end;
  of_input = ended plan first next h.records end max (walks h.records h.stands).1;
  tells = tells;
  few = few_records plan fits first now next h.records max (walks h.records h.stands).0;
  come = h.come;
}

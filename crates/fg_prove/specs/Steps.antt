-- How far a proof has come. No public contract cites what stands here.
use Rattle.std.specs.Prelude.{◌≡◌, ◌≢◌, ◌++◌, ℕ, List, [], ◌∷◌, length, slice_index, Option}
use Rattle.std.specs.List.{All, AllZip}
use Rattle.fg_io.specs.Sink.{Gains, GainsPart}
use Rattle.fg_io.specs.Sent.{Sent}
use Rattle.fg_trace.specs.Trace.{Record}
use Rattle.fg_flows.specs.declared.Plan.{Plan}
use Rattle.fg_flows.specs.Plan.{PlanFits, playout_of}
use Rattle.fg_shape.specs.declared.kind.Kind.{Kind}
use Rattle.fg_shape.specs.Playout.{Playout}
use Rattle.fg_playout.specs.declared.reply.Reply.{Reply}
use Rattle.fg_playout.specs.declared.reply.Outcome.{Outcome}
use Rattle.fg_playout.specs.declared.reply.Outcome.TheVariants.{Repaired}
use Rattle.fg_playout.specs.State.{State, opening}
use Rattle.fg_playout.specs.Play.{Play}
use Rattle.fg_playout.specs.Run.{Arrival, time_of, Takes, TakesThen, TakesAll}
use Rattle.fg_playout.specs.Laws.{AreHeldSteps, HavePlayedFor, HavePlayedThen}
use Rattle.fg_playout.specs.PlayedOn.{PlayOn, taken_then_on, taken_on, all_taken_on}
use Rattle.fg_playout.specs.DesksJoin.{held_steps_on, played_then_on, played_for_on}
use Rattle.fg_results.specs.Flow.{IsReadAs, Arrives, records_of}
use Rattle.fg_closure.specs.Holes.{HasMissing}
use Rattle.fg_proof.specs.declared.case.Case.{Case}
use Rattle.fg_proof.specs.declared.judging.Answer.TheVariants.{Yes}
use Rattle.fg_proof.specs.Case.{IsCase}
use Rattle.fg_proof.specs.Judgement.{IsAnswer}
use Rattle.fg_proof.specs.Text.{case_text, cases_text}
use Rattle.fg_prove.specs.Proved.{AreCases, AreProved, AreProvedFor}

-- What is told

-- The cases of these plays are told: the sink has gained the front of what was held and of their text, and the rest is held.
pub record HaveTold
    (port : ℕ) (mades : List PlayOn) (held : List ℕ) (before : Option (List ℕ)) (held' : List ℕ) (after : Option (List ℕ)) : Type 0 where
  pub cases : List Case
  pub are : AreCases port mades cases
  pub judged : All (λ case. IsAnswer case Yes) cases
  pub sent : Sent before (held ++ cases_text cases) held' after

-- The sink has gained a front of it.
pub record HavePart (port : ℕ) (mades : List PlayOn) (held : List ℕ) (before after : Option (List ℕ)) : Type 0 where
  pub cases : List Case
  pub are : AreCases port mades cases
  pub part : GainsPart before (held ++ cases_text cases) after

-- Such plays were made, on these desks, and their cases are told.
pub record Tells
    (Are : List Play → State → Type 0) (on : (plays : List Play) (new : State) → Are plays new → List PlayOn)
    (port : ℕ) (held : List ℕ) (before : Option (List ℕ)) (new : State) (held' : List ℕ) (after : Option (List ℕ)) : Type 0 where
  pub plays : List Play
  pub are : Are plays new
  pub told : HaveTold port (on plays new are) held before held' after

-- A fault came: such plays were made, and the sink has gained a front of the text of their cases.
pub record Breaks
    (Are : List Play → State → Type 0) (on : (plays : List Play) (new : State) → Are plays new → List PlayOn)
    (port : ℕ) (held : List ℕ) (before after : Option (List ℕ)) : Type 0 where
  pub plays : List Play
  pub now : State
  pub are : Are plays now
  pub part : HavePart port (on plays now are) held before after

-- One play

-- Nothing is told.
pub record IsQuiet (held : List ℕ) (before : Option (List ℕ)) (held' : List ℕ) (after : Option (List ℕ)) : Type 0 where
  pub held_is : held' ≡ held
  pub written : after ≡ before

-- After a play of this outcome, of so many positions and on this desk, its case is told: where it is repaired, and a position is
-- missing.
pub data TellsGap
    (port : ℕ) (desk : State) (count : ℕ) (verdict : Outcome) (held : List ℕ) (before : Option (List ℕ)) (held' : List ℕ) (after : Option (List ℕ)) : Type 0 where
  whole :
      ¬ ((verdict ≡ Repaired) × HasMissing desk count) → IsQuiet held before held' after
      → TellsGap port desk count verdict held before held' after
  gap :
      (case : Case) → verdict ≡ Repaired → HasMissing desk count → IsCase port desk count case
      → Sent before (held ++ case_text case) held' after → TellsGap port desk count verdict held before held' after

-- A fault came: there was no memory for the case, or a front of its text is told.
pub data BreaksGap
    (port : ℕ) (desk : State) (count : ℕ) (verdict : Outcome) (held : List ℕ) (before after : Option (List ℕ)) : Type 0 where
  unmade : after ≡ before → BreaksGap port desk count verdict held before after
  unwritten :
      (case : Case) → verdict ≡ Repaired → HasMissing desk count → IsCase port desk count case
      → GainsPart before (held ++ case_text case) after → BreaksGap port desk count verdict held before after

-- Such a play was made on this desk, and its case is told.
pub record TellsOne
    (Plays : Play → State → Type 0) (desk : State)
    (port : ℕ) (held : List ℕ) (before : Option (List ℕ)) (new : State) (held' : List ℕ) (after : Option (List ℕ)) : Type 0 where
  pub play : Play
  pub plays : Plays play new
  pub told : HaveTold port (record { desk = desk; play = play } ∷ []) held before held' after

-- A fault came: nothing more is told, or such a play was made and a front of its case's text is.
pub data BreaksOne
    (Plays : Play → State → Type 0) (desk : State) (port : ℕ) (held : List ℕ) (before after : Option (List ℕ)) : Type 0 where
  no_play : HavePart port [] held before after → BreaksOne Plays desk port held before after
  one_play :
      (play : Play) (now : State) → Plays play now
      → HavePart port (record { desk = desk; play = play } ∷ []) held before after
      → BreaksOne Plays desk port held before after

-- A datagram

-- Held plays at a time, so far: there are none where words may wait for ever.
abbrev pub HaveHeld : State → ℕ → List Play → State → Type 0
HaveHeld old time plays now = (old.playout.hold ≢ 0) × AreHeldSteps old time plays now

abbrev pub have_held_on : (old : State) (time : ℕ) (plays : List Play) (now : State) → HaveHeld old time plays now → List PlayOn
have_held_on old time plays now have = held_steps_on old time plays now have.1

-- A datagram of this kind and time is read. Taking it so, its plays are made and their cases told, and it is admitted or gets its
-- reply.
pub record AdmitsBy
    (Taking : State → Arrival → List Play → Option Reply → State → Type 0)
    (on : (old : State) (arrival : Arrival) (plays : List Play) (reply : Option Reply) (new : State)
    → Taking old arrival plays reply new → List PlayOn)
    (kind : Kind) (time : ℕ) (bytes : List ℕ) (port : ℕ) (old : State) (held : List ℕ) (before : Option (List ℕ))
    (new : State) (held' : List ℕ) (after : Option (List ℕ)) : Type 0 where
  pub arrival : Arrival
  pub came : time_of arrival ≡ time
  pub read : IsReadAs kind bytes arrival
  pub plays : List Play
  pub reply : Option Reply
  pub takes : Taking old arrival plays reply new
  pub told : HaveTold port (on old arrival plays reply new takes) held before held' after

-- It is taken from its held plays on, or where no word waits for too long any more.
abbrev pub AdmitsDatagram :
    Kind → ℕ → List ℕ → ℕ → State → List ℕ → Option (List ℕ) → State → List ℕ → Option (List ℕ) → Type 0
AdmitsDatagram = AdmitsBy Takes taken_on

abbrev pub AdmitsThen :
    Kind → ℕ → List ℕ → ℕ → State → List ℕ → Option (List ℕ) → State → List ℕ → Option (List ℕ) → Type 0
AdmitsThen = AdmitsBy TakesThen taken_then_on

-- A fault came while it was taken, whatever it is read as.
abbrev pub BreaksAtDatagram : Kind → ℕ → List ℕ → ℕ → State → List ℕ → Option (List ℕ) → Option (List ℕ) → Type 0
BreaksAtDatagram kind time bytes port old held before after =
    (arrival : Arrival) → time_of arrival ≡ time → IsReadAs kind bytes arrival
    → Breaks (HavePlayedFor old arrival) (played_for_on old arrival) port held before after

abbrev pub BreaksThen : Kind → ℕ → List ℕ → ℕ → State → List ℕ → Option (List ℕ) → Option (List ℕ) → Type 0
BreaksThen kind time bytes port old held before after =
    (arrival : Arrival) → time_of arrival ≡ time → IsReadAs kind bytes arrival
    → Breaks (HavePlayedThen old arrival) (played_then_on old arrival) port held before after

-- The records of a trace

-- The flow has taken its part of these records: its desk has come to this state, and the cases of its plays are told.
pub record HasTaken
    (playout : Playout) (flow : ℕ) (records : List Record) (state : State) (before : Option (List ℕ)) (held : List ℕ) (after : Option (List ℕ)) : Type 0 where
  pub arrivals : List Arrival
  pub plays : List Play
  pub replies : List (Option Reply)
  pub arrive : AllZip (Arrives flow) (records_of flow records) arrivals
  pub takes : TakesAll (opening playout) arrivals plays replies state
  pub told : HaveTold flow (all_taken_on (opening playout) arrivals plays replies state takes) [] before held after

-- The sink has gained a prefix of the text of the cases of any records that begin with these.
abbrev pub HasPart : Playout → ℕ → List Record → Option (List ℕ) → Option (List ℕ) → Type 0
HasPart playout flow records before after =
    (later : List Record) (cases : List Case) → AreProved playout (records ++ later) flow cases
    → GainsPart before (cases_text cases) after

-- The plan's first flow has taken its part of these records.
abbrev pub FirstHasTaken : Plan → List Record → State → Option (List ℕ) → List ℕ → Option (List ℕ) → Type 0
FirstHasTaken plan records state before held after =
    HasTaken (playout_of plan) (slice_index plan.table 0) records state before held after

-- A proof of gaps under way

-- No record is taken, and nothing is told. The plan fits and has one flow, this one.
pub record IsNew (plan : Plan) (flow : ℕ) (state : State) (held : List ℕ) : Type 0 where
  pub fits : PlanFits plan
  pub one : length plan.table ≡ 1
  pub flow_is : flow ≡ slice_index plan.table 0
  pub opens : state ≡ opening (playout_of plan)
  pub empty : held ≡ []

-- The plan's one flow, this one, has taken its part of these records.
pub record HasTold
    (plan : Plan) (flow : ℕ) (records : List Record) (state : State) (before : Option (List ℕ)) (held : List ℕ) (after : Option (List ℕ)) : Type 0 where
  pub fits : PlanFits plan
  pub one : length plan.table ≡ 1
  pub flow_is : flow ≡ slice_index plan.table 0
  pub taken : FirstHasTaken plan records state before held after

-- The sink has gained the text of the cases of these records, and the judge says `Yes` of each.
pub record HasProved (plan : Plan) (records : List Record) (before after : Option (List ℕ)) : Type 0 where
  pub cases : List Case
  pub are_proved : AreProvedFor plan records cases
  pub judged : All (λ case. IsAnswer case Yes) cases
  pub gained : Gains before (cases_text cases) after

-- It has gained a prefix of that text.
abbrev pub HasProvedPart : Plan → List Record → Option (List ℕ) → Option (List ℕ) → Type 0
HasProvedPart plan records before after =
    (cases : List Case) → AreProvedFor plan records cases → GainsPart before (cases_text cases) after

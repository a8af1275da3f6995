-- What a proof of a trace's gaps comes to. This project's own.
use Rattle.std.specs.Prelude.{◌≡◌, ◌<◌, ◌++◌, ℕ, List, [], ◌∷◌, length, slice_index, slice_index_or, Option, None, IfSome}
use Rattle.std.specs.List.{All, AllZip}
use Rattle.fg_io.specs.Sink.{Gains, GainsPart}
use Rattle.fg_trace.specs.declared.step.Finish.{Finish}
use Rattle.fg_trace.specs.Finish.{finish_of}
use Rattle.fg_trace.specs.Trace.{Record, Ending, IsTrace}
use Rattle.fg_flows.specs.declared.Plan.{Plan}
use Rattle.fg_flows.specs.Plan.{playout_of}
use Rattle.fg_shape.specs.Playout.{Playout}
use Rattle.fg_playout.specs.declared.reply.Reply.{Reply}
use Rattle.fg_playout.specs.declared.reply.Outcome.TheVariants.{Repaired}
use Rattle.fg_playout.specs.Play.{Play, nothing_shown}
use Rattle.fg_playout.specs.Run.{Arrival, IsRun}
use Rattle.fg_playout.specs.PlayedOn.{PlayOn, played_on}
use Rattle.fg_results.specs.Flow.{records_of, Arrives}
use Rattle.fg_proof.specs.declared.case.Case.{Case}
use Rattle.fg_proof.specs.declared.judging.Answer.TheVariants.{Yes}
use Rattle.fg_proof.specs.Case.{IsCase}
use Rattle.fg_proof.specs.Judgement.{IsAnswer}
use Rattle.fg_proof.specs.Text.{cases_text}

-- A play shows a loss: it is repaired, and one of its positions shows no word.
pub record ShowsALoss (play : Play) : Type 0 where
  pub repaired : play.outcome ≡ Repaired
  pub at : ℕ
  pub within : at < length play.shown
  pub missing : (slice_index_or play.shown at nothing_shown).word ≡ None

-- The cases of a play: one where it shows a loss, of the desk that it is made on and as many positions as it shows; and else
-- none.
pub data IsCaseOf (port : ℕ) (made : PlayOn) (cases : List Case) : Type 0 where
  no_loss : ¬ ShowsALoss made.play → cases ≡ [] → IsCaseOf port made cases
  a_loss :
      (case : Case) → ShowsALoss made.play → IsCase port made.desk (length made.play.shown) case → cases ≡ case ∷ []
      → IsCaseOf port made cases

-- The cases of plays, one play after another.
abbrev pub AreCases : ℕ → List PlayOn → List Case → Type 0
AreCases port [] cases = cases ≡ []
AreCases port (made ∷ mades) cases =
    (first : List Case) × (rest : List Case) × (cases ≡ first ++ rest) × IsCaseOf port made first × AreCases port mades rest

-- The records of a trace give a flow these cases: its records are read, its run over them is made, and they are the cases of the
-- run's plays.
pub record AreProved (playout : Playout) (records : List Record) (flow : ℕ) (cases : List Case) : Type 0 where
  pub arrivals : List Arrival
  pub plays : List Play
  pub replies : List (Option Reply)
  pub arrive : AllZip (Arrives flow) (records_of flow records) arrivals
  pub run : IsRun playout arrivals plays replies
  pub cases_are : AreCases flow (played_on playout arrivals plays replies run) cases

-- The cases of the plan's first flow, which is named by the port of its media datagrams.
abbrev pub AreProvedFor : Plan → List Record → List Case → Type 0
AreProvedFor plan records cases = AreProved (playout_of plan) records (slice_index plan.table 0) cases

-- The sink has gained the text of the flow's cases in the input's trace, the judge says `Yes` of each, and the answer is that of
-- the trace's ending. What is no trace has no records, and so no cases.
pub record Proves (plan : Plan) (answer : Finish) (input written written' : Option (List ℕ)) : Type 0 where
  pub records : List Record
  pub end : Ending
  pub cases : List Case
  pub answer_is : answer ≡ finish_of end
  pub of_input : IfSome input (λ bytes. IsTrace bytes plan.max records end)
  pub are_proved : AreProvedFor plan records cases
  pub judged : All (λ case. IsAnswer case Yes) cases
  pub gained : Gains written (cases_text cases) written'

-- The sink has gained a prefix of that text.
abbrev pub ProvesPart : Plan → Option (List ℕ) → Option (List ℕ) → Option (List ℕ) → Type 0
ProvesPart plan input written written' =
    IfSome input (λ bytes. (records : List Record) (end : Ending) (cases : List Case)
    → IsTrace bytes plan.max records end → AreProvedFor plan records cases → GainsPart written (cases_text cases) written')

-- What a proof of a trace's gaps comes to, from its first record on.
use Rattle.std.proofs.Common.{◌≡◌, ℕ, Option, Some, None, Result, Ok, Err, IfOk, OnErr, List, [], slice_index, sym, subst}
use Rattle.std.proofs.lemmas.List.Elements.{All-nil}
use Rattle.fg_io.specs.declared.fault.Fault.{Fault}
use Rattle.fg_io.specs.Sink.{Gains, GainsPart}
use Rattle.fg_io.proofs.SentLemmas.{Sent-cut, Sent-whole}
use Rattle.fg_io.proofs.SinkLemmas.{Gains-nil, GainsPart-nil}
use Rattle.fg_flows.specs.declared.Plan.{Plan}
use Rattle.fg_flows.specs.Plan.{playout_of}
use Rattle.fg_trace.specs.declared.step.Finish.{Finish}
use Rattle.fg_trace.specs.Trace.{Record, Ending}
use Rattle.fg_walk.specs.Walk.{Walked, WalkedPart}
use Rattle.fg_playout.specs.State.{State, opening}
use Rattle.fg_proof.specs.declared.judging.Answer.TheVariants.{Yes}
use Rattle.fg_proof.specs.Judgement.{IsAnswer}
use Rattle.fg_proof.specs.Text.{cases_text}
use Rattle.fg_prove.specs.Laws.{OneProof}
use Rattle.fg_prove.specs.Proved.{Proves, ProvesPart}
use Rattle.fg_prove.specs.Steps.{FirstHasTaken, HasProved, HasProvedPart, HasTold, IsNew}
use Rattle.fg_prove.proofs.Opening.{none_proved}
use Rattle.fg_prove.proofs.Taking.{HasEnded, taken_nothing}

-- At first

pub told_first : (plan : Plan) (flow : ℕ) (state : State) (held : List ℕ) (written : Option (List ℕ)) → IsNew plan flow state held → HasTold plan flow [] state written held written
told_first plan flow state held written new = record {
  fits = new.fits;
  one = new.one;
  flow_is = new.flow_is;
  taken =
      subst (λ (s : State). FirstHasTaken plan [] s written held written) (sym new.opens)
      (subst (λ (t : List ℕ). FirstHasTaken plan [] (opening (playout_of plan)) written t written) (sym new.empty)
      (taken_nothing (playout_of plan) (slice_index plan.table 0) written));
}

-- No records have no cases.
pub proved_none : (plan : Plan) (written : Option (List ℕ)) → HasProved plan [] written written
proved_none plan written = record {
  cases = [];
  are_proved = none_proved (playout_of plan) (slice_index plan.table 0);
  judged = All-nil (λ case. IsAnswer case Yes);
  gained = Gains-nil written;
}

pub none_is_part : (plan : Plan) (records : List Record) (written : Option (List ℕ)) → HasProvedPart plan records written written
none_is_part plan records written cases are = GainsPart-nil written (cases_text cases)

-- At last

abbrev pub FirstHasEnded : Plan → List Record → Option (List ℕ) → List ℕ → Option (List ℕ) → Type 0
FirstHasEnded plan records before held after = HasEnded (playout_of plan) (slice_index plan.table 0) records before held after

pub proved_all :
    (plan : Plan) (records : List Record) (before : Option (List ℕ)) (held : List ℕ) (now after : Option (List ℕ))
    → FirstHasEnded plan records before held now → Gains now held after → HasProved plan records before after
proved_all plan records before held now after ended gained = record {
  cases = ended.cases;
  are_proved = ended.are;
  judged = ended.judged;
  gained = Sent-whole before now after (cases_text ended.cases) held ended.sent gained;
}

pub part_of_all :
    OneProof → (plan : Plan) (records : List Record) (before : Option (List ℕ)) (held : List ℕ) (now after : Option (List ℕ))
    → FirstHasEnded plan records before held now → GainsPart now held after → HasProvedPart plan records before after
part_of_all one plan records before held now after ended part cases are =
    let same : ended.cases ≡ cases = one (playout_of plan) records (slice_index plan.table 0) ended.cases cases ended.are are in
    subst (λ (cs : List _). GainsPart before (cases_text cs) after) same
    (Sent-cut before now after (cases_text ended.cases) held ended.sent part)

-- What a call comes to

-- what is written of records, whatever the ending
abbrev pub ProvedWhole : Plan → List Record → Ending → Option (List ℕ) → Option (List ℕ) → Type 0
ProvedWhole plan records end = HasProved plan records

pub proves : (plan : Plan) (input before after : Option (List ℕ)) (came : Result Finish Fault) → IfOk came (λ finish. Walked ProvedWhole plan plan.max finish input before after) → IfOk came (λ finish. Proves plan finish input before after)
proves plan input before after (Ok finish) h = record {
  records = h.records;
  end = h.end;
  cases = h.told.cases;
  answer_is = h.answer_is;
  of_input = h.of_input;
  are_proved = h.told.are_proved;
  judged = h.told.judged;
  gained = h.told.gained;
}
proves plan input before after (Err fault) h = tt

part_of : (plan : Plan) (input before after : Option (List ℕ)) → WalkedPart HasProvedPart plan plan.max input before after → ProvesPart plan input before after
part_of plan None before after h = tt
part_of plan (Some bytes) before after h = λ records end cases trace are. h records end trace cases are

pub proves_part : (plan : Plan) (input before after : Option (List ℕ)) (came : Result Finish Fault) → OnErr came (WalkedPart HasProvedPart plan plan.max input before after) → OnErr came (ProvesPart plan input before after)
proves_part plan input before after (Ok finish) h = tt
proves_part plan input before after (Err fault) h = part_of plan input before after h

pub proves_nothing : (plan : Plan) (input written : Option (List ℕ)) → ProvesPart plan input written written
proves_nothing plan None written = tt
proves_nothing plan (Some bytes) written = λ records end cases trace are. GainsPart-nil written (cases_text cases)

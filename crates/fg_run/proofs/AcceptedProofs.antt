-- `check` accepts what `prove` writes.
use Rattle.std.proofs.Common.{◌<◌, ◌^◌, ℕ, List, map, slice_index, refl, ap, ◌∙◌, arith}
use Rattle.fg_flows.specs.declared.Plan.{Plan}
use Rattle.fg_flows.specs.Plan.{PlanFits, playout_of}
use Rattle.fg_proof.specs.declared.case.Case.{Case}
use Rattle.fg_proof.specs.declared.judging.Answer.TheVariants.{Yes}
use Rattle.fg_proof.specs.Text.{cases_text}
use Rattle.fg_prove.specs.WritableProofs.{ProvedCasesAreWritable}
use Rattle.fg_check.specs.declared.walk.Checked.TheVariants as told
use Rattle.fg_check.specs.Accepted.{IsAccepted, ProvedTextsAreAccepted}
use Rattle.fg_check.specs.Checked.{Whole}
use Rattle.fg_commands.specs.Endings.{why_of_checked}
use Rattle.fg_run.specs.AcceptedProofs.{ChecksAsDone, ProofsAreAccepted}
use Rattle.fg_run.proofs.Fitting.{proof_fits, few_records}

checks_as_done : (max : ℕ) (cases : List Case) → IsAccepted max cases → ChecksAsDone max (cases_text cases) cases
checks_as_done max cases is = record {
  answer = record {
    cases = cases;
    ending = Whole;
    answers = map (λ case. Yes) cases;
    checked = told.Done;
    of_bytes = is.checked;
    are = is.answers;
    tells = is.done;
    answer_is = refl;
  };
  only = λ other lanes lanes' written written' gains.
      (let all = is.only gains.1.0 written written' gains.1.2 in (gains.1.1 ∙ ap why_of_checked all.0, all.1));
}

flow_port : (plan : Plan) → PlanFits plan → slice_index plan.table 0 < 2 ^ 16
flow_port plan fits =
    let some = fits.table.some_flow in
    let below = (fits.table.good 0 (omega (arith, some))).in_range.1 in
    omega (arith, below)

pub proofs_are_accepted : ProvedCasesAreWritable → ProvedTextsAreAccepted → ProofsAreAccepted
proofs_are_accepted writable accepted words plan answer bytes lanes lanes' written written' asks gains =
    let proves = gains.1.2 in
    let fits = proof_fits words plan asks in
    record {
      cases = proves.cases;
      gained = proves.gained;
      accepted = λ max few. checks_as_done max proves.cases
          (accepted max proves.cases
          (writable (playout_of plan) proves.records (slice_index plan.table 0) proves.cases fits.playout (flow_port plan fits)
          (few_records plan fits bytes proves.records proves.end proves.of_input) proves.are_proved)
          proves.judged few);
    }

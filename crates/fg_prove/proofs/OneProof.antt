-- The records of a trace give a flow one list of cases.
use Rattle.std.proofs.Common.{◌≡◌, ℕ, List, [], ◌∷◌, ◌++◌, Option, refl, sym, ap, subst, ◌∙◌, length}
use Rattle.fg_rtp.specs.Laws.{ReadsOneWay as MediaReadsOneWay}
use Rattle.fg_fechead.specs.Laws.{ReadsOneWay as ParityReadsOneWay}
use Rattle.fg_shape.specs.Playout.{Playout}
use Rattle.fg_playout.specs.declared.reply.Reply.{Reply}
use Rattle.fg_playout.specs.Play.{Play}
use Rattle.fg_playout.specs.Run.{Arrival, IsRun}
use Rattle.fg_playout.specs.PlayedOn.{PlayOn, played_on, OneListOfDesks}
use Rattle.fg_results.specs.Flow.{records_of}
use Rattle.fg_results.proofs.ArrivalLemmas.{arrivals_are_read, one_list_arrives}
use Rattle.fg_proof.specs.declared.case.Case.{Case}
use Rattle.fg_proof.specs.Laws.{OneCase}
use Rattle.fg_prove.specs.Laws.{OneListOfCases, OneProof}
use Rattle.fg_prove.specs.Proved.{IsCaseOf, no_loss, a_loss, AreCases}

one_of_play : OneCase → (port : ℕ) (made : PlayOn) (one other : List Case) → IsCaseOf port made one → IsCaseOf port made other → one ≡ other
one_of_play law port made one other (no_loss none is) (no_loss none' is') = is ∙ sym is'
one_of_play law port made one other (no_loss none is) (a_loss case' loss' of' is') = absurd (none loss')
one_of_play law port made one other (a_loss case loss of is) (no_loss none' is') = absurd (none' loss)
one_of_play law port made one other (a_loss case loss of is) (a_loss case' loss' of' is') =
    is ∙ ap (λ (c : Case). c ∷ []) (law port (length made.play.shown) made.desk case case' of of') ∙ sym is'

pub one_list_of_cases : OneCase → OneListOfCases
one_list_of_cases law port [] one other are are' = are ∙ sym are'
one_list_of_cases law port (made ∷ mades) one other are are' =
    are.2
    ∙ ap (λ (cs : List Case). cs ++ are.1) (one_of_play law port made are.0 are'.0 are.3 are'.3)
    ∙ ap (λ (cs : List Case). are'.0 ++ cs) (one_list_of_cases law port mades are.1 are'.1 are.4 are'.4)
    ∙ sym are'.2

-- A run of the same arrivals.
pub run_of_same :
    (playout : Playout) (arrivals arrivals' : List Arrival) (plays : List Play) (replies : List (Option Reply)) → arrivals ≡ arrivals'
    → (run : IsRun playout arrivals plays replies)
    → (run' : IsRun playout arrivals' plays replies)
    × (played_on playout arrivals' plays replies run' ≡ played_on playout arrivals plays replies run)
run_of_same playout arrivals arrivals' plays replies same run =
    let P : List Arrival → Type 0 =
    λ xs. (run' : IsRun playout xs plays replies) × (played_on playout xs plays replies run' ≡ played_on playout arrivals plays replies run) in
    subst P same (run, refl)

pub one_proof : MediaReadsOneWay → ParityReadsOneWay → OneListOfDesks → OneListOfCases → OneProof
one_proof media parity desks cases playout records flow one other h k =
    let same = one_list_arrives media parity flow (records_of flow records) k.arrivals h.arrivals k.arrive h.arrive in
    let run = run_of_same playout k.arrivals h.arrivals k.plays k.replies same k.run in
    let made = desks playout h.arrivals h.plays k.plays h.replies k.replies h.run run.0 (arrivals_are_read flow records h.arrivals h.arrive) ∙ run.1 in
    cases flow (played_on playout k.arrivals k.plays k.replies k.run) one other
    (subst (λ (mades : List PlayOn). AreCases flow mades one) made h.cases_are) k.cases_are

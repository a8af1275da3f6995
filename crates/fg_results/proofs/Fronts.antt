-- What the records of a flow give: one run, and a lane that begins with what was shown so far.
use Rattle.std.proofs.Common.{◌≡◌, ℕ, List, [], ◌∷◌, ◌++◌, refl, sym, ap, ◌∙◌, subst}
use Rattle.std.specs.List.{AllZip}
use Rattle.std.proofs.lemmas.List.Elements.{filter-append}
use Rattle.fg_fechead.specs.Laws.{ReadsOneWay as ParityReadsOneWay}
use Rattle.fg_rtp.specs.Laws.{ReadsOneWay as MediaReadsOneWay}
use Rattle.fg_trace.specs.Trace.{Record}
use Rattle.fg_shape.specs.Playout.{Playout}
use Rattle.fg_playout.specs.Laws.{OneRun, TakenPlaysComeFirst}
use Rattle.fg_playout.specs.Play.{Play}
use Rattle.fg_playout.specs.Run.{Arrival, IsRun, TakesAll}
use Rattle.fg_playout.specs.State.{State, opening}
use Rattle.fg_report.specs.declared.flow_sum.FlowSum.{FlowSum}
use Rattle.fg_results.specs.Laws.{OneFlowResult, ShownIsFront}
use Rattle.fg_results.specs.Flow.{FlowResult, IsFlowResult, AreGaps, Arrives, records_of, is_of, lane_of, sum_of}
use Rattle.fg_results.specs.Gaps.{OneListOfGaps}
use Rattle.fg_results.proofs.ArrivalLemmas.{arrivals_are_read, one_list_arrives, arrivals_begin}
use Rattle.fg_results.proofs.ShownLemmas.{lane_more}

-- One result

same_results : (a b : FlowResult) → a.lane ≡ b.lane → a.sum ≡ b.sum → a ≡ b
same_results a b lane sum = ap (λ (t : List ℕ). record { lane = t; sum = a.sum }) lane ∙ ap (λ (s : FlowSum). record { lane = b.lane; sum = s }) sum

-- The records give a flow one result.
pub one_flow_result : MediaReadsOneWay → ParityReadsOneWay → OneRun → OneListOfGaps → OneFlowResult
one_flow_result media parity run list playout flow records a b h k =
    let same = one_list_arrives media parity flow (records_of flow records) k.arrivals h.arrivals k.arrive h.arrive in
    let other : IsRun playout h.arrivals k.plays k.replies = record {
      taken = k.run.taken;
      flushed = k.run.flushed;
      filled = k.run.filled;
      empty = k.run.empty;
      takes = subst (λ (xs : List Arrival). TakesAll (opening playout) xs k.run.taken k.replies k.run.filled) same k.run.takes;
      flush = k.run.flush;
      plays_are = k.run.plays_are;
    } in
    let one = run playout h.arrivals h.plays k.plays h.replies k.replies (arrivals_are_read flow records h.arrivals h.arrive) h.run other in
    let gaps = list k.plays h.gaps k.gaps (subst (λ (ps : List Play). AreGaps ps h.gaps) one.0 h.are_gaps) k.are_gaps in
    same_results a b
    (h.lane ∙ ap lane_of one.0 ∙ sym k.lane)
    (h.sum ∙ ap (λ (desk : State). sum_of flow desk.runs h.gaps h.arrivals h.plays h.replies) one.2
    ∙ ap (λ gs. sum_of flow k.run.filled.runs gs h.arrivals h.plays h.replies) gaps
    ∙ ap (λ ps. sum_of flow k.run.filled.runs k.gaps h.arrivals ps h.replies) one.0
    ∙ ap (λ rs. sum_of flow k.run.filled.runs k.gaps h.arrivals k.plays rs) one.1
    ∙ ap (λ xs. sum_of flow k.run.filled.runs k.gaps xs k.plays k.replies) (sym same) ∙ sym k.sum)

-- The front of a lane

-- What a flow has shown is the front of its lane in every trace that begins with these records.
pub shown_is_front : MediaReadsOneWay → ParityReadsOneWay → TakenPlaysComeFirst → ShownIsFront
shown_is_front media parity law playout flow records later bytes result h k =
    let both : AllZip (Arrives flow) (records_of flow records ++ records_of flow later) k.arrivals = subst (λ (rs : List Record). AllZip (Arrives flow) rs k.arrivals) (filter-append (is_of flow) records later) k.arrive in
    let begins = arrivals_begin media parity flow (records_of flow records) (records_of flow later) h.arrivals k.arrivals h.arrive both in
    let run = subst (λ (arrivals : List Arrival). IsRun playout arrivals k.plays k.replies) begins.1 k.run in
    let after = law playout h.arrivals begins.0 h.plays k.plays h.replies k.replies h.state (arrivals_are_read flow records h.arrivals h.arrive) h.takes run in
    (lane_of after.0, k.lane ∙ ap lane_of after.1 ∙ lane_more h.plays after.0 ∙ ap (λ (t : List ℕ). t ++ lane_of after.0) (sym h.bytes_are))

-- They give each flow of a list one result.
pub one_of_each :
    OneFlowResult → (playout : Playout) (records : List Record) (flows : List ℕ) (xs ys : List FlowResult)
    → AllZip (IsFlowResult playout records) flows xs → AllZip (IsFlowResult playout records) flows ys → xs ≡ ys
one_of_each law playout records [] [] [] h k = refl
one_of_each law playout records [] [] (b ∷ ys) h k = absurd k
one_of_each law playout records [] (a ∷ xs) ys h k = absurd h
one_of_each law playout records (flow ∷ flows) [] ys h k = absurd h
one_of_each law playout records (flow ∷ flows) (a ∷ xs) [] h k = absurd k
one_of_each law playout records (flow ∷ flows) (a ∷ xs) (b ∷ ys) h k =
    ap (λ t. t ∷ xs) (law playout flow records a b h.0 k.0)
    ∙ ap (λ t. b ∷ t) (one_of_each law playout records flows xs ys h.1 k.1)

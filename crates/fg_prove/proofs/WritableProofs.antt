-- Each case of a proof has a text.
use Rattle.std.proofs.Common.{◌≡◌, ◌<◌, ◌^◌, ℕ, List, [], ◌∷◌, ◌++◌, length, sym, ap, subst, arith}
use Rattle.std.specs.List.{All}
use Rattle.std.proofs.lemmas.List.Elements.{All-nil, All-cons, All-append}
use Rattle.fg_shape.specs.Playout.{Playout, PlayoutFits}
use Rattle.fg_playout.specs.Play.{Play}
use Rattle.fg_playout.specs.PlayedAfter.{EachAfter, ShowsWhatWasAdmitted, RunsShowWhatWasAdmitted}
use Rattle.fg_playout.specs.PlayedOn.{PlayOn, played_on}
use Rattle.fg_playout.specs.Run.{Arrival}
use Rattle.fg_results.proofs.ArrivalLemmas.{few_arrive, arrivals_are_read}
use Rattle.fg_proof.specs.declared.case.Case.{Case}
use Rattle.fg_proof.specs.Text.{IsWritable}
use Rattle.fg_proof.specs.WritableCases.{CasesAreWritable}
use Rattle.fg_prove.specs.Proved.{IsCaseOf, no_loss, a_loss, AreCases}
use Rattle.fg_prove.specs.WritableProofs.{ProvedCasesAreWritable}

module _ (each : CasesAreWritable) (playout : Playout) (fits : PlayoutFits playout) (flow : ℕ) (port : flow < 2 ^ 16) where
  of_play :
      (arrivals : List Arrival) (front : List Play) (made : PlayOn) (cases : List Case) → ShowsWhatWasAdmitted playout arrivals front made
      → IsCaseOf flow made cases → All IsWritable cases
  of_play arrivals front made cases shows (no_loss none empty) = subst (λ (cs : List Case). All IsWritable cs) (sym empty) (All-nil IsWritable)
  of_play arrivals front made cases shows (a_loss case loss of one) =
      let deep = fits.depth.1 in
      let wide = fits.window.1 in
      let few = shows.few in
      let long = shows.is_play.length_is in
      let depth : made.desk.playout.depth ≡ playout.depth = ap (λ (p : Playout). p.depth) shows.playout_is in
      let writable : IsWritable case = each flow (length made.play.shown) made.desk case shows.holds shows.room
      (omega (arith, deep, depth)) (omega (arith, wide, few, long)) port of in
      subst (λ (cs : List Case). All IsWritable cs) (sym one) (All-cons IsWritable case [] writable (All-nil IsWritable))

  of_plays :
      (arrivals : List Arrival) (front : List Play) (mades : List PlayOn) (cases : List Case)
      → EachAfter (ShowsWhatWasAdmitted playout arrivals) front mades → AreCases flow mades cases → All IsWritable cases
  of_plays arrivals front [] cases shows are = subst (λ (cs : List Case). All IsWritable cs) (sym are) (All-nil IsWritable)
  of_plays arrivals front (made ∷ mades) cases shows are =
      subst (λ (cs : List Case). All IsWritable cs) (sym are.2)
      (All-append IsWritable are.0 are.1 (of_play arrivals front made are.0 shows.0 are.3)
      (of_plays arrivals (front ++ made.play ∷ []) mades are.1 shows.1 are.4))

pub proved_cases_are_writable : CasesAreWritable → RunsShowWhatWasAdmitted → ProvedCasesAreWritable
proved_cases_are_writable each shows playout records flow cases fits port few proved =
    let fewer = few_arrive flow records proved.arrivals proved.arrive in
    of_plays each playout fits flow port proved.arrivals []
    (played_on playout proved.arrivals proved.plays proved.replies proved.run) cases
    (shows playout proved.arrivals proved.plays proved.replies proved.run fits
    (arrivals_are_read flow records proved.arrivals proved.arrive) (omega (arith, fewer, few)))
    proved.cases_are

-- Each window of a repair shows what every sound peeling of what was admitted before it gives.
use Rattle.std.proofs.Common.{◌<◌, ◌^◌, ℕ, List, [], ◌∷◌, length, refl, arith}
use Rattle.std.specs.List.{AllZip}
use Rattle.fg_shape.specs.Playout.{Playout, PlayoutFits}
use Rattle.fg_trace.specs.Trace.{Record}
use Rattle.fg_flows.specs.Plan.{playout_of}
use Rattle.fg_playout.specs.PlayedAfter.{RunsShowWhatWasAdmitted}
use Rattle.fg_playout.specs.PlayedOn.{PlaysAreTheRuns, played_on}
use Rattle.fg_results.specs.Flow.{FlowResult, IsFlowResult}
use Rattle.fg_results.proofs.ArrivalLemmas.{few_arrive, arrivals_are_read}
use Rattle.fg_run.specs.Headline.{FlowShows, WindowsShowSoundPeelings}
use Rattle.fg_run.proofs.Fitting.{repair_fits, few_records}

module _ (plays : PlaysAreTheRuns) (shows : RunsShowWhatWasAdmitted) where
  flow_shows :
      (playout : Playout) (records : List Record) (flow : ℕ) (result : FlowResult) → PlayoutFits playout → length records < 2 ^ 43
      → IsFlowResult playout records flow result → FlowShows playout records flow result
  flow_shows playout records flow result fits few is = record {
    given = is;
    mades = played_on playout is.arrivals is.plays is.replies is.run;
    mades_are = refl;
    plays_are = plays playout is.arrivals is.plays is.replies is.run;
    windows = (let fewer = few_arrive flow records is.arrivals is.arrive in
        shows playout is.arrivals is.plays is.replies is.run fits (arrivals_are_read flow records is.arrivals is.arrive)
        (omega (arith, fewer, few)));
  }

  flows_show :
      (playout : Playout) (records : List Record) (flows : List ℕ) (results : List FlowResult) → PlayoutFits playout
      → length records < 2 ^ 43 → AllZip (IsFlowResult playout records) flows results
      → AllZip (FlowShows playout records) flows results
  flows_show playout records [] [] fits few zip = tt
  flows_show playout records [] (result ∷ results) fits few zip = absurd zip
  flows_show playout records (flow ∷ flows) [] fits few zip = absurd zip
  flows_show playout records (flow ∷ flows) (result ∷ results) fits few zip =
      (flow_shows playout records flow result fits few zip.0, flows_show playout records flows results fits few zip.1)

  pub windows_show_sound_peelings : WindowsShowSoundPeelings
  windows_show_sound_peelings words plan answer bytes lanes lanes' written written' asks gains =
      let outputs = gains.2 in
      let fits = repair_fits words plan asks in
      record {
        records = outputs.records;
        end = gains.0;
        results = outputs.results;
        answer_is = gains.1;
        of_input = outputs.of_input;
        flows = flows_show (playout_of plan) outputs.records plan.table outputs.results fits.playout
            (few_records plan fits bytes outputs.records gains.0 outputs.of_input) outputs.are_results;
        gain = outputs.gain;
      }

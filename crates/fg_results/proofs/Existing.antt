-- Any records give each flow a result.
use Rattle.std.proofs.Common.{◌≡◌, ◌==◌, ◌||◌, ◌≤◌, ℕ, Bool, true, false, cond, List, [], ◌∷◌, refl, ⊎_elim}
use Rattle.std.proofs.lemmas.Bool.{or_cases, eqb-true}
use Rattle.std.proofs.lemmas.List.Elements.{All-nil, All-cons}
use Rattle.std.specs.List.{All, AllZip}
use Rattle.fg_rtp.specs.Laws.{MediaIsDecided}
use Rattle.fg_fechead.specs.Laws.{ParityIsDecided}
use Rattle.fg_trace.specs.Trace.{Record}
use Rattle.fg_fechead.specs.declared.Parity.{Parity as ParityRead}
use Rattle.fg_fechead.specs.ParityDatagram.{IsParityDatagram}
use Rattle.fg_shape.specs.declared.kind.Kind.{Kind}
use Rattle.fg_shape.specs.declared.kind.Kind.TheVariants as kind
use Rattle.fg_shape.specs.Kind.{port_of}
use Rattle.fg_shape.specs.Playout.{Playout}
use Rattle.fg_flows.specs.Plan.{playout_of}
use Rattle.fg_playout.specs.Run.{Arrival, carries, protects, refused}
use Rattle.fg_playout.specs.Laws.{IsRead}
use Rattle.fg_playout.specs.Existence.{RunsExist}
use Rattle.fg_results.specs.Flow.{FlowResult, IsFlowResult, IsReadAs, Arrives, is_of, lane_of, parity_of, records_of, sum_of}
use Rattle.fg_results.specs.Existence.{FlowResultExists, ResultsExist}
use Rattle.fg_results.specs.Gaps.{gaps_of}
use Rattle.fg_results.proofs.GapsTold.{gaps_are_told}

-- How a record of a flow arrives.
record IsTaken (flow : ℕ) (r : Record) : Type 0 where
  arrival : Arrival
  arrives : Arrives flow r arrival
  read : IsRead arrival

-- How some records of a flow arrive.
record AreTaken (flow : ℕ) (records : List Record) : Type 0 where
  arrivals : List Arrival
  arrive : AllZip (Arrives flow) records arrivals
  read : All IsRead arrivals

module _ (media : MediaIsDecided) (parity : ParityIsDecided) (flow : ℕ) where
  taken_as_media : (r : Record) → port_of flow kind.Media ≡ r.port → IsTaken flow r
  taken_as_media r port = ⊎_elim
      (λ d. record {
        arrival = carries r.time d.0 d.1 d.2;
        arrives = (kind.Media, port, d.3, refl);
        read = (d.3.seq_size, d.3.ssrc_size, d.3.media);
      })
      (λ none. record { arrival = refused r.time kind.Media; arrives = (kind.Media, port, (refl, none), refl); read = tt })
      (media r.datagram)

  taken_as_parity :
      (by : Kind) (r : Record) → port_of flow by ≡ r.port
      → ((read : ParityRead) → IsParityDatagram r.datagram read → IsReadAs by r.datagram (protects r.time by (parity_of read)))
      → (((read : ParityRead) → ¬ IsParityDatagram r.datagram read) → IsReadAs by r.datagram (refused r.time by)) → IsTaken flow r
  taken_as_parity by r port protected none = ⊎_elim
      (λ d. record {
        arrival = protects r.time by (parity_of d.0);
        arrives = (by, port, protected d.0 d.1, refl);
        read = (d.1.base_size, d.1.shape);
      })
      (λ not. record { arrival = refused r.time by; arrives = (by, port, none not, refl); read = tt })
      (parity r.datagram)

  taken_as : (r : Record) → is_of flow r ≡ true → IsTaken flow r
  taken_as r one = ⊎_elim
      (λ either. ⊎_elim
      (λ here. taken_as_media r (eqb-true (port_of flow kind.Media) r.port here))
      (λ here. taken_as_parity kind.Column r (eqb-true (port_of flow kind.Column) r.port here) (λ read is. (refl, (read, is, refl))) (λ not. (refl, not)))
      (or_cases (port_of flow kind.Media == r.port) (port_of flow kind.Column == r.port) either))
      (λ here. taken_as_parity kind.Row r (eqb-true (port_of flow kind.Row) r.port here) (λ read is. (refl, (read, is, refl))) (λ not. (refl, not)))
      (or_cases (port_of flow kind.Media == r.port || port_of flow kind.Column == r.port) (port_of flow kind.Row == r.port) one)

  all_taken : (records : List Record) → AreTaken flow (records_of flow records)
  all_taken [] = record { arrivals = []; arrive = tt; read = All-nil IsRead }
  all_taken (r ∷ records) = go (is_of flow r) refl (all_taken records)
    where
      go :
          (b : Bool) → is_of flow r ≡ b → AreTaken flow (records_of flow records)
          → AreTaken flow (cond b (r ∷ records_of flow records) (records_of flow records))
      go true one rest =
          let first = taken_as r one in
          record {
            arrivals = first.arrival ∷ rest.arrivals;
            arrive = (first.arrives, rest.arrive);
            read = All-cons IsRead first.arrival rest.arrivals first.read rest.read;
          }
      go false none rest = rest

module _ (media : MediaIsDecided) (parity : ParityIsDecided) (runs : RunsExist) where
  pub flow_result_exists : FlowResultExists
  flow_result_exists playout flow records some =
      let all = all_taken media parity flow records in
      let run = runs playout all.arrivals some all.read in (
        record { lane = lane_of run.0; sum = sum_of flow run.2.filled.runs (gaps_of run.0) all.arrivals run.0 run.1 },
        record {
          arrivals = all.arrivals;
          plays = run.0;
          replies = run.1;
          arrive = all.arrive;
          run = run.2;
          gaps = gaps_of run.0;
          are_gaps = gaps_are_told run.0;
          lane = refl;
          sum = refl;
        },
      )

  results_of :
      (playout : Playout) (records : List Record) → 1 ≤ playout.window → (table : List ℕ)
      → (results : List FlowResult) × AllZip (IsFlowResult playout records) table results
  results_of playout records some [] = ([], tt)
  results_of playout records some (flow ∷ table) =
      let first = flow_result_exists playout flow records some in
      let rest = results_of playout records some table in
      (first.0 ∷ rest.0, (first.1, rest.1))

  pub results_exist : ResultsExist
  results_exist plan records some = results_of (playout_of plan) records some plan.table

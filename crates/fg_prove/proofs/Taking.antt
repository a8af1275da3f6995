-- What was taken of a trace, and what comes next of it.
use Rattle.std.proofs.Common.{◌≡◌, ◌<◌, ◌^◌, ◌++◌, ℕ, Bool, cond, List, [], ◌∷◌, length, slice_index, Option, refl, sym, ap, subst, ◌∙◌, arith, append_assoc, append-nil}
use Rattle.std.specs.List.{All, AllZip}
use Rattle.std.proofs.lemmas.List.Elements.{filter-append}
use Rattle.fg_io.specs.Sink.{GainsPart}
use Rattle.fg_io.specs.Sent.{Sent}
use Rattle.fg_io.proofs.SinkLemmas.{GainsPart-front}
use Rattle.fg_rtp.specs.Laws.{ReadsOneWay as MediaReadsOneWay}
use Rattle.fg_fechead.specs.Laws.{ReadsOneWay as ParityReadsOneWay}
use Rattle.fg_trace.specs.Trace.{Record}
use Rattle.fg_shape.specs.declared.kind.Kind.{Kind}
use Rattle.fg_shape.specs.Kind.{port_of}
use Rattle.fg_flows.specs.Flows.{IsPortOf}
use Rattle.fg_shape.specs.Playout.{Playout, PlayoutFits}
use Rattle.fg_playout.specs.State.{State, opening}
use Rattle.fg_playout.specs.Admission.{counted}
use Rattle.fg_playout.specs.Run.{Arrival, IsFlush}
use Rattle.fg_playout.specs.Laws.{AreFlushSteps, RunsStayWithin, FlushesStayWithin}
use Rattle.fg_playout.specs.PlayedOn.{PlayOn, all_taken_on, taken_on, flushed_on}
use Rattle.fg_playout.specs.DesksJoin.{flush_steps_on, played_for_on, TakenDesksJoin, OneTakenDesks, RunDesksEnd, TakenDesksComeFirst, DesksBeforeComeNextInRuns, FlushDesksComeNext}
use Rattle.fg_desk.specs.Arrivals.{StaysWithin, FlushesWithin}
use Rattle.fg_results.proofs.FlowRecords.{is_of_no}
use Rattle.fg_results.specs.Flow.{is_of, records_of, IsReadAs, Arrives}
use Rattle.fg_results.proofs.ArrivalLemmas.{one_more_record, few_arrive, arrivals_are_read, one_kind, one_list_arrives, arrivals_begin}
use Rattle.fg_results.proofs.Zips.{zip_push}
use Rattle.fg_proof.specs.declared.case.Case.{Case}
use Rattle.fg_proof.specs.declared.judging.Answer.TheVariants.{Yes}
use Rattle.fg_proof.specs.Judgement.{IsAnswer}
use Rattle.fg_proof.specs.Text.{cases_text}
use Rattle.fg_prove.specs.Laws.{OneListOfCases}
use Rattle.fg_prove.specs.Proved.{AreCases, AreProved}
use Rattle.fg_prove.specs.Steps.{HaveTold, HavePart, Tells, Breaks, AdmitsDatagram, BreaksAtDatagram, HasTaken, HasPart}
use Rattle.fg_prove.proofs.OneProof.{run_of_same}
use Rattle.fg_prove.proofs.Telling.{cases_split, told_none, told_more, told_part, part_more}
use Rattle.fg_prove.proofs.Texts.{cases_text-append}

-- A record more

no_more_record : (flow : ℕ) (records : List Record) (r : Record) → ((k : Kind) → port_of flow k ≡ r.port → ⊥) → records_of flow (records ++ r ∷ []) ≡ records_of flow records
no_more_record flow records r never =
    filter-append (is_of flow) records (r ∷ [])
    ∙ ap (λ (b : Bool). records_of flow records ++ cond b (r ∷ []) []) (is_of_no flow r never)
    ∙ append-nil (records_of flow records)

pub taken_none :
    (playout : Playout) (flow : ℕ) (records : List Record) (r : Record) (state : State) (before : Option (List ℕ)) (held : List ℕ) (after : Option (List ℕ))
    → ((k : Kind) → port_of flow k ≡ r.port → ⊥) → HasTaken playout flow records state before held after
    → HasTaken playout flow (records ++ r ∷ []) state before held after
taken_none playout flow records r state before held after never h = record {
  arrivals = h.arrivals;
  plays = h.plays;
  replies = h.replies;
  arrive = subst (λ (own : List Record). AllZip (Arrives flow) own h.arrivals) (sym (no_more_record flow records r never)) h.arrive;
  takes = h.takes;
  told = h.told;
}

pub taken_more :
    TakenDesksJoin → OneTakenDesks
    → (playout : Playout) (flow : ℕ) (kind : Kind) (time : ℕ) (bytes : List ℕ) (records : List Record) (r : Record) (state new : State)
    (before : Option (List ℕ)) (held : List ℕ) (at : Option (List ℕ)) (held' : List ℕ) (after : Option (List ℕ))
    → AdmitsDatagram kind time bytes flow state held at new held' after
    → r.datagram ≡ bytes → r.time ≡ time → port_of flow kind ≡ r.port → HasTaken playout flow records state before held at
    → HasTaken playout flow (records ++ r ∷ []) new before held' after
taken_more join one playout flow kind time bytes records r state new before held at held' after admits is came on h =
    let single = one state new admits.arrival admits.plays admits.reply admits.takes in
    let both = join (opening playout) state new h.arrivals (admits.arrival ∷ []) h.plays admits.plays h.replies (admits.reply ∷ []) h.takes single.0 in
    let first = all_taken_on (opening playout) h.arrivals h.plays h.replies state h.takes in
    let then = taken_on state admits.arrival admits.plays admits.reply new admits.takes in
    record {
      arrivals = h.arrivals ++ admits.arrival ∷ [];
      plays = h.plays ++ admits.plays;
      replies = h.replies ++ admits.reply ∷ [];
      arrive =
          subst (λ (own : List Record). AllZip (Arrives flow) own (h.arrivals ++ admits.arrival ∷ []))
          (sym (one_more_record flow kind records r on))
          (zip_push (Arrives flow) (records_of flow records) h.arrivals r admits.arrival h.arrive
          (kind, on, subst (λ (b : List ℕ). IsReadAs kind b admits.arrival) (sym is) admits.read, admits.came ∙ sym came));
      takes = both.0;
      told =
          subst (λ (mades : List PlayOn). HaveTold flow mades [] before held' after)
          (sym (both.1 ∙ ap (λ (mades : List PlayOn). first ++ mades) single.1))
          (told_more flow first then [] held held' before at after h.told admits.told);
    }

-- The ports of a lone flow

pub first_port : (table : List ℕ) (port i : ℕ) (kind : Kind) → length table ≡ 1 → IsPortOf table port i kind → port_of (slice_index table 0) kind ≡ port
first_port table port i kind one of =
    let below : i < length table = of.0 in
    let zero_is : i ≡ 0 = omega (arith, below, one) in
    subst (λ (n : ℕ). port_of (slice_index table n) kind ≡ port) zero_is of.1

pub no_port :
    (table : List ℕ) (port : ℕ) (r : Record) → length table ≡ 1 → r.port ≡ port
    → ((i : ℕ) (kind : Kind) → IsPortOf table port i kind → ⊥) → (kind : Kind) → port_of (slice_index table 0) kind ≡ r.port → ⊥
no_port table port r one same none kind on = none 0 kind (omega (arith, one), on ∙ same)

-- At first

pub taken_nothing : (playout : Playout) (flow : ℕ) (written : Option (List ℕ)) → HasTaken playout flow [] (opening playout) written [] written
taken_nothing playout flow written = record {
  arrivals = [];
  plays = [];
  replies = [];
  arrive = tt;
  takes = (refl, refl, refl);
  told = told_none flow [] written;
}

-- Room

few_arrivals :
    (playout : Playout) (flow : ℕ) (records : List Record) (state : State) (before : Option (List ℕ)) (held : List ℕ) (after : Option (List ℕ))
    → length records < 2 ^ 43 → (h : HasTaken playout flow records state before held after) → length h.arrivals < 2 ^ 44
few_arrivals playout flow records state before held after few h =
    let fewer = few_arrive flow records h.arrivals h.arrive in
    omega (arith, fewer, few)

pub stays_within :
    RunsStayWithin → (playout : Playout) (flow : ℕ) (records : List Record) (state : State) (before : Option (List ℕ)) (held : List ℕ) (after : Option (List ℕ))
    → PlayoutFits playout → length records < 2 ^ 43 → HasTaken playout flow records state before held after → StaysWithin state
stays_within stay playout flow records state before held after fits few h next due new played =
    stay playout next h.arrivals h.plays due h.replies state new
    fits.window.0 fits.window.1 fits.depth.0 fits.depth.1
    (arrivals_are_read flow records h.arrivals h.arrive) (few_arrivals playout flow records state before held after few h) h.takes played

pub flushes_within :
    FlushesStayWithin → (playout : Playout) (flow : ℕ) (records : List Record) (state : State) (before : Option (List ℕ)) (held : List ℕ) (after : Option (List ℕ))
    → PlayoutFits playout → length records < 2 ^ 43 → HasTaken playout flow records state before held after → FlushesWithin state
flushes_within stay playout flow records state before held after fits few h flushed new steps =
    stay playout h.arrivals h.plays flushed h.replies state new
    fits.window.0 fits.window.1 fits.depth.0 fits.depth.1
    (arrivals_are_read flow records h.arrivals h.arrive) (few_arrivals playout flow records state before held after few h) h.takes steps

-- Parts

-- What is told of a run's first plays is a part of the text of all.
part_of_whole :
    OneListOfCases → (flow : ℕ) (mades rest : List PlayOn) (before after : Option (List ℕ)) (cases : List Case)
    → HavePart flow mades [] before after → AreCases flow (mades ++ rest) cases → GainsPart before (cases_text cases) after
part_of_whole one flow mades rest before after cases part are =
    let split = cases_split flow mades rest cases are in
    let same : split.0 ≡ part.cases = one flow mades split.0 part.cases split.3 part.are in
    let begins : cases_text cases ≡ cases_text part.cases ++ cases_text split.1 =
    ap cases_text split.2 ∙ cases_text-append split.0 split.1 ∙ ap (λ (cs : List Case). cases_text cs ++ cases_text split.1) same in
    GainsPart-front before after (cases_text part.cases) (cases_text cases) (cases_text split.1, begins) part.part

module _ (media : MediaReadsOneWay) (parity : ParityReadsOneWay) (one : OneListOfCases) where
  pub told_is_part :
      TakenDesksComeFirst
      → (playout : Playout) (flow : ℕ) (records : List Record) (state : State) (before : Option (List ℕ)) (held : List ℕ) (after : Option (List ℕ))
      → HasTaken playout flow records state before held after → HasPart playout flow records before after
  told_is_part come playout flow records state before held after h later cases proved =
      let own = subst (λ (rs : List Record). AllZip (Arrives flow) rs proved.arrivals) (filter-append (is_of flow) records later) proved.arrive in
      let begins = arrivals_begin media parity flow (records_of flow records) (records_of flow later) h.arrivals proved.arrivals h.arrive own in
      let run = run_of_same playout proved.arrivals (h.arrivals ++ begins.0) proved.plays proved.replies begins.1 proved.run in
      let next = come playout h.arrivals begins.0 h.plays proved.plays h.replies proved.replies state (arrivals_are_read flow records h.arrivals h.arrive) h.takes run.0 in
      let first = all_taken_on (opening playout) h.arrivals h.plays h.replies state h.takes in
      part_of_whole one flow first next.0 before after cases (told_part flow first [] held before after h.told)
      (subst (λ (mades : List PlayOn). AreCases flow mades cases) (sym run.1 ∙ next.1) proved.cases_are)

  -- The next arrival, where there are more.
  breaks_with :
      DesksBeforeComeNextInRuns
      → (playout : Playout) (flow : ℕ) (kind : Kind) (time : ℕ) (bytes : List ℕ) (records all laters : List Record) (r : Record) (state : State)
      (before : Option (List ℕ)) (held : List ℕ) (at after : Option (List ℕ)) (cases : List Case)
      → BreaksAtDatagram kind time bytes flow state held at after
      → r.datagram ≡ bytes → r.time ≡ time → port_of flow kind ≡ r.port → (h : HasTaken playout flow records state before held at)
      → (proved : AreProved playout all flow cases)
      → (rest : List Arrival) → proved.arrivals ≡ h.arrivals ++ rest → AllZip (Arrives flow) (r ∷ laters) rest
      → GainsPart before (cases_text cases) after
  breaks_with come playout flow kind time bytes records all laters r state before held at after cases breaks is came on h proved [] begins zip = absurd zip
  breaks_with come playout flow kind time bytes records all laters r state before held at after cases breaks is came on h proved (arrival ∷ more) begins zip =
      let arrives = zip.0 in
      let read : IsReadAs kind bytes arrival =
      subst (λ (b : List ℕ). IsReadAs kind b arrival) is (subst (λ (k : Kind). IsReadAs k r.datagram arrival) (one_kind flow r.port arrives.0 kind arrives.1 on) arrives.2) in
      let off = breaks arrival (arrives.3 ∙ came) read in
      let run = run_of_same playout proved.arrivals (h.arrivals ++ arrival ∷ more) proved.plays proved.replies begins proved.run in
      let next = come playout arrival h.arrivals more h.plays off.plays proved.plays h.replies proved.replies state off.now
      (arrivals_are_read flow records h.arrivals h.arrive) h.takes off.are run.0 in
      let first = all_taken_on (opening playout) h.arrivals h.plays h.replies state h.takes in
      let then = played_for_on state arrival off.plays off.now off.are in
      part_of_whole one flow (first ++ then) next.0 before after cases (part_more flow first then [] held before at after h.told off.part)
      (subst (λ (mades : List PlayOn). AreCases flow mades cases) (sym run.1 ∙ next.1 ∙ sym (append_assoc first then next.0)) proved.cases_are)

  pub taken_breaks :
      DesksBeforeComeNextInRuns
      → (playout : Playout) (flow : ℕ) (kind : Kind) (time : ℕ) (bytes : List ℕ) (records : List Record) (r : Record) (state : State)
      (before : Option (List ℕ)) (held : List ℕ) (at after : Option (List ℕ))
      → BreaksAtDatagram kind time bytes flow state held at after
      → r.datagram ≡ bytes → r.time ≡ time → port_of flow kind ≡ r.port → HasTaken playout flow records state before held at
      → HasPart playout flow (records ++ r ∷ []) before after
  taken_breaks come playout flow kind time bytes records r state before held at after breaks is came on h later cases proved =
      let laters = records_of flow later in
      let split : records_of flow ((records ++ r ∷ []) ++ later) ≡ records_of flow records ++ r ∷ laters =
      filter-append (is_of flow) (records ++ r ∷ []) later
      ∙ ap (λ (rs : List Record). rs ++ laters) (one_more_record flow kind records r on)
      ∙ append_assoc (records_of flow records) (r ∷ []) laters in
      let own = subst (λ (rs : List Record). AllZip (Arrives flow) rs proved.arrivals) split proved.arrive in
      let begins = arrivals_begin media parity flow (records_of flow records) (r ∷ laters) h.arrivals proved.arrivals h.arrive own in
      breaks_with come playout flow kind time bytes records ((records ++ r ∷ []) ++ later) laters r state before held at after cases breaks is came on h proved
      begins.0 begins.1 begins.2

  pub flush_breaks_whole :
      FlushDesksComeNext
      → (playout : Playout) (flow : ℕ) (records : List Record) (state : State)
      (before : Option (List ℕ)) (held : List ℕ) (at after : Option (List ℕ)) (cases : List Case)
      → Breaks (AreFlushSteps state) (flush_steps_on state) flow held at after → HasTaken playout flow records state before held at
      → AreProved playout records flow cases → GainsPart before (cases_text cases) after
  flush_breaks_whole come playout flow records state before held at after cases off h proved =
      let same = one_list_arrives media parity flow (records_of flow records) proved.arrivals h.arrivals proved.arrive h.arrive in
      let run = run_of_same playout proved.arrivals h.arrivals proved.plays proved.replies same proved.run in
      let next = come playout h.arrivals h.plays off.plays proved.plays h.replies proved.replies state off.now
      (arrivals_are_read flow records h.arrivals h.arrive) h.takes off.are run.0 in
      let first = all_taken_on (opening playout) h.arrivals h.plays h.replies state h.takes in
      let then = flush_steps_on state off.plays off.now off.are in
      part_of_whole one flow (first ++ then) next.0 before after cases (part_more flow first then [] held before at after h.told off.part)
      (subst (λ (mades : List PlayOn). AreCases flow mades cases) (sym run.1 ∙ next.1 ∙ sym (append_assoc first then next.0)) proved.cases_are)

-- The end

-- The cases of all plays are told.
pub record HasEnded (playout : Playout) (flow : ℕ) (records : List Record) (before : Option (List ℕ)) (held : List ℕ) (after : Option (List ℕ)) : Type 0 where
  pub cases : List Case
  pub are : AreProved playout records flow cases
  pub judged : All (λ case. IsAnswer case Yes) cases
  pub sent : Sent before (cases_text cases) held after

pub flushed_whole :
    RunDesksEnd
    → (playout : Playout) (flow : ℕ) (records : List Record) (state new : State)
    (before : Option (List ℕ)) (held : List ℕ) (at : Option (List ℕ)) (held' : List ℕ) (after : Option (List ℕ))
    → (empty : State) × (new ≡ counted empty) × Tells (IsFlush state) (flushed_on state) flow held at empty held' after
    → HasTaken playout flow records state before held at → HasEnded playout flow records before held' after
flushed_whole end playout flow records state new before held at held' after (empty, counts, so) h =
    let run = end playout h.arrivals h.plays so.plays h.replies state empty h.takes so.are in
    let first = all_taken_on (opening playout) h.arrivals h.plays h.replies state h.takes in
    let then = flushed_on state so.plays empty so.are in
    let told = told_more flow first then [] held held' before at after h.told so.told in
    record {
      cases = told.cases;
      are = record {
        arrivals = h.arrivals;
        plays = h.plays ++ so.plays;
        replies = h.replies;
        arrive = h.arrive;
        run = run.0;
        cases_are = subst (λ (mades : List PlayOn). AreCases flow mades told.cases) (sym run.1) told.are;
      };
      judged = told.judged;
      sent = told.sent;
    }

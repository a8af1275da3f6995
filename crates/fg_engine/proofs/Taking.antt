-- What was taken, and what comes next of it.
use Rattle.std.proofs.Common.{◌≡◌, ◌+◌, ◌≤◌, ◌++◌, ℕ, List, [], ◌∷◌, length, Option, refl, sym, ap, subst, ◌∙◌, arith, append_assoc}
use Rattle.std.specs.List.{AllZip}
use Rattle.std.proofs.lemmas.List.{append-nil}
use Rattle.fg_io.specs.Prefix.{IsPrefix}
use Rattle.fg_io.specs.Outlet.{Lanes}
use Rattle.fg_rtp.specs.Laws.{ReadsOneWay as MediaReadsOneWay}
use Rattle.fg_fechead.specs.Laws.{ReadsOneWay as ParityReadsOneWay}
use Rattle.fg_trace.specs.Trace.{Record}
use Rattle.fg_shape.specs.declared.kind.Kind.{Kind}
use Rattle.fg_shape.specs.Kind.{port_of}
use Rattle.fg_playout.specs.declared.reply.Reply.{Reply}
use Rattle.fg_shape.specs.declared.kind.Kind.TheVariants as kind
use Rattle.fg_shape.specs.Playout.{Playout}
use Rattle.fg_playout.specs.State.{State, opening}
use Rattle.fg_playout.specs.Admission.{counted}
use Rattle.fg_playout.specs.Play.{Play}
use Rattle.fg_playout.specs.Run.{Arrival, time_of, TakesAll, IsFlush, IsRun}
use Rattle.fg_playout.specs.Laws.{PlaysBeforeComeNext, AreFlushSteps, TakingsJoin, FlushStepsComeNext, PlaysReachTheMark, EachGetsAReply, CountsAdd}
use Rattle.fg_report.specs.declared.flow_sum.FlowSum.{FlowSum}
use Rattle.fg_results.specs.Flow.{FlowResult, IsFlowResult, IsReadAs, Arrives, records_of, all_shown, marks_of, lane_of}
use Rattle.fg_engine.specs.Steps.{HasTaken, HaveShown, BreakOff, AdmitsDatagram, BreaksAtDatagram, TakesRecord, BreaksAtRecord, EndsFlow, BreaksAtEnd, with_plays, with_answer, sum_so_far}
use Rattle.fg_results.specs.Gaps.{gaps_of}
use Rattle.fg_results.specs.Stops.{HasShown}
use Rattle.fg_results.proofs.ArrivalLemmas.{one_kind, one_more_record, arrivals_are_read, arrivals_begin, one_list_arrives}
use Rattle.fg_engine.proofs.Answering.{answer_added}
use Rattle.fg_results.proofs.GapsTold.{gaps_are_told}
use Rattle.fg_results.proofs.ShownLemmas.{lane_more}
use Rattle.fg_engine.proofs.Counting.{plays_more}
use Rattle.fg_engine.proofs.Underway.{mark_is_shown}
use Rattle.fg_results.proofs.Zips.{zip_push}

-- The counts of replies and runs alone.
abbrev replies_alone : ℕ → ℕ → List Arrival → List (Option Reply) → FlowSum
replies_alone flow runs arrivals replies = record {
  port = flow;
  shown = 0;
  repaired = 0;
  missing = 0;
  windows = 0;
  inconsistent = 0;
  media = marks_of kind.Media arrivals replies;
  column = marks_of kind.Column arrivals replies;
  row = marks_of kind.Row arrivals replies;
  runs = runs;
  gaps = [];
}

-- The others are those of the plays.
sum_is_with_plays :
    (flow runs : ℕ) (arrivals : List Arrival) (plays : List Play) (replies : List (Option Reply))
    → sum_so_far flow runs arrivals plays replies ≡ with_plays (replies_alone flow runs arrivals replies) 0 plays
sum_is_with_plays flow runs arrivals plays replies =
    let zero : (n : ℕ) → n ≡ 0 + n = λ n. omega arith in
    let sum = sum_so_far flow runs arrivals plays replies in
    λ i. record sum {
      shown = zero sum.shown i;
      repaired = zero sum.repaired i;
      missing = zero sum.missing i;
      windows = zero sum.windows i;
      inconsistent = zero sum.inconsistent i;
    }

pub plays_added :
    (flow runs : ℕ) (arrivals : List Arrival) (plays more : List Play) (replies : List (Option Reply))
    → with_plays (sum_so_far flow runs arrivals plays replies) (length (all_shown plays)) more
    ≡ sum_so_far flow runs arrivals (plays ++ more) replies
plays_added flow runs arrivals plays more replies =
    let place : length (all_shown plays) ≡ 0 + length (all_shown plays) = omega arith in
    (λ i. with_plays (sum_is_with_plays flow runs arrivals plays replies i) (place i) more)
    ∙ plays_more (replies_alone flow runs arrivals replies) 0 plays more
    ∙ sym (sum_is_with_plays flow runs arrivals (plays ++ more) replies)

pub sum_after_plays :
    PlaysReachTheMark → (playout : Playout) (flow : ℕ) (records : List Record) (state : State) (sum sum' : FlowSum) (lane : List ℕ)
    → 1 ≤ playout.window → (taken : HasTaken playout flow records state sum lane) → (plays : List Play)
    → sum' ≡ with_plays sum state.mark plays → sum' ≡ sum_so_far flow state.runs taken.arrivals (taken.plays ++ plays) taken.replies
sum_after_plays reach playout flow records state sum sum' lane some taken plays counts =
    let mark = mark_is_shown reach playout taken.arrivals taken.plays taken.replies state some taken.takes in
    counts
    ∙ (λ i. with_plays (taken.sum_is i) (mark i) plays)
    ∙ plays_added flow state.runs taken.arrivals taken.plays plays taken.replies

-- What a run shows begins with what was shown, and then with a part of what its next plays show.
pub front_of_lane :
    (lane part whole : List ℕ) (before next after plays : List Play) → lane ≡ lane_of before → IsPrefix part (lane_of next)
    → plays ≡ before ++ (next ++ after) → whole ≡ lane_of plays → IsPrefix (lane ++ part) whole
front_of_lane lane part whole before next after plays is front begin shown = (
  front.0 ++ lane_of after,
  shown
      ∙ ap lane_of begin
      ∙ lane_more before (next ++ after)
      ∙ ap (λ (bytes : List ℕ). lane_of before ++ bytes) (lane_more next after)
      ∙ (λ i. sym is i ++ (front.1 i ++ lane_of after))
      ∙ ap (λ (bytes : List ℕ). lane ++ bytes) (append_assoc part front.0 (lane_of after))
      ∙ sym (append_assoc lane part (front.0 ++ lane_of after)),
)

-- The end.

pub flow_ends :
    PlaysReachTheMark → (playout : Playout) (state new : State) (sum sum' : FlowSum) (before after : Option Lanes)
    → 1 ≤ playout.window
    → (empty : State) × (new ≡ counted empty) × HaveShown (IsFlush state) state sum before empty sum' after
    → (records : List Record) (lane : List ℕ) → HasTaken playout sum.port records state sum lane
    → EndsFlow playout sum.port records lane sum' before after
flow_ends reach playout state new sum sum' before after some (empty, counts, shown) records lane taken = record {
  piece = lane_of shown.plays;
  grows = shown.grows;
  result = record {
    arrivals = taken.arrivals;
    plays = taken.plays ++ shown.plays;
    replies = taken.replies;
    arrive = taken.arrive;
    run = record {
      taken = taken.plays;
      flushed = shown.plays;
      filled = state;
      empty = empty;
      takes = taken.takes;
      flush = shown.are;
      plays_are = refl;
    };
    gaps = gaps_of (taken.plays ++ shown.plays);
    are_gaps = gaps_are_told (taken.plays ++ shown.plays);
    lane = ap (λ (bytes : List ℕ). bytes ++ lane_of shown.plays) taken.lane_is ∙ sym (lane_more taken.plays shown.plays);
    sum = sum_after_plays reach playout sum.port records state sum sum' lane some taken shown.plays shown.counts;
  };
}

module _ (media : MediaReadsOneWay) (parity : ParityReadsOneWay) where
  pub flow_breaks :
      FlushStepsComeNext → (playout : Playout) (flow : ℕ) (state : State) (sum : FlowSum) (before after : Option Lanes)
      → BreakOff (AreFlushSteps state) flow before after
      → (records : List Record) (lane : List ℕ) → HasTaken playout flow records state sum lane
      → BreaksAtEnd playout flow records lane before after
  flow_breaks next playout flow state sum before after off records lane taken = record {
    part = off.part.0;
    grows = off.part.2;
    begins = λ (result : FlowResult) (is : IsFlowResult playout records flow result).
        let same = one_list_arrives media parity flow (records_of flow records) is.arrivals taken.arrivals is.arrive taken.arrive in
        let begin = next playout taken.arrivals taken.plays off.plays is.plays taken.replies is.replies state off.now
        (arrivals_are_read flow records taken.arrivals taken.arrive) taken.takes off.are
        (subst (λ (arrivals : List Arrival). IsRun playout arrivals is.plays is.replies) same is.run) in
        front_of_lane lane off.part.0 result.lane taken.plays off.plays begin.0 is.plays taken.lane_is off.part.1 begin.1 is.lane;
  }

-- A record.

pub record_taken :
    PlaysReachTheMark → TakingsJoin → CountsAdd → EachGetsAReply
    → (playout : Playout) (kind : Kind) (time : ℕ) (bytes : List ℕ) (state new : State) (sum sum' last : FlowSum) (reply : Option Reply)
    (before after : Option Lanes) → 1 ≤ playout.window → AdmitsDatagram kind time bytes state sum before reply new sum' after
    → last ≡ record (with_answer kind sum' reply) { runs = new.runs }
    → (records : List Record) (r : Record) (lane : List ℕ) → HasTaken playout sum.port records state sum lane
    → r.datagram ≡ bytes → r.time ≡ time → port_of sum.port kind ≡ r.port
    → TakesRecord playout sum.port records r lane new last before after
record_taken reach join add each playout kind time bytes state new sum sum' last reply before after some admits counted records r lane taken is at on =
    let flow = sum.port in
    let plays = sum_after_plays reach playout flow records state sum sum' lane some taken admits.due admits.counts in
    let same : length taken.arrivals ≡ length taken.replies =
    sym (each (opening playout) state taken.arrivals taken.plays taken.replies taken.takes) in
    record {
      piece = lane_of admits.due;
      grows = admits.grows;
      taken = record {
        arrivals = taken.arrivals ++ admits.arrival ∷ [];
        plays = taken.plays ++ admits.due;
        replies = taken.replies ++ reply ∷ [];
        arrive =
            subst (λ (own : List Record). AllZip (Arrives flow) own (taken.arrivals ++ admits.arrival ∷ []))
            (sym (one_more_record flow kind records r on))
            (zip_push (Arrives flow) (records_of flow records) taken.arrivals r admits.arrival taken.arrive
            (kind, on, subst (λ (bytes : List ℕ). IsReadAs kind bytes admits.arrival) (sym is) admits.read, admits.came ∙ sym at));
        takes =
            join (opening playout) state new taken.arrivals (admits.arrival ∷ []) taken.plays admits.due taken.replies (reply ∷ [])
            taken.takes (admits.due, [], new, sym (append-nil admits.due), admits.takes, (refl, refl, refl));
        lane_is = ap (λ (bytes : List ℕ). bytes ++ lane_of admits.due) taken.lane_is ∙ sym (lane_more taken.plays admits.due);
        sum_is =
            counted
            ∙ ap (λ (s : FlowSum). record (with_answer kind s reply) { runs = new.runs }) plays
            ∙ ap (λ (s : FlowSum). record s { runs = new.runs })
            (answer_added add flow state.runs kind bytes taken.arrivals admits.arrival (taken.plays ++ admits.due) taken.replies reply
            same admits.read);
      };
    }

module _ (media : MediaReadsOneWay) (parity : ParityReadsOneWay) where
  -- One more record brings one more arrival.
  record OneMore (kind : Kind) (time : ℕ) (bytes : List ℕ) (taken arrivals : List Arrival) : Type 0 where
    arrival : Arrival
    all : arrivals ≡ taken ++ arrival ∷ []
    came : time_of arrival ≡ time
    read : IsReadAs kind bytes arrival

  one_more_at :
      (flow : ℕ) (kind : Kind) (time : ℕ) (bytes : List ℕ) (r : Record) (taken arrivals rest : List Arrival)
      → r.datagram ≡ bytes → r.time ≡ time → port_of flow kind ≡ r.port → arrivals ≡ taken ++ rest
      → AllZip (Arrives flow) (r ∷ []) rest → OneMore kind time bytes taken arrivals
  one_more_at flow kind time bytes r taken arrivals [] is at on begins arrive = absurd arrive
  one_more_at flow kind time bytes r taken arrivals (arrival ∷ other ∷ rest) is at on begins arrive = absurd arrive.1
  one_more_at flow kind time bytes r taken arrivals (arrival ∷ []) is at on begins arrive =
      let one = arrive.0 in
      record {
        arrival = arrival;
        all = begins;
        came = one.3 ∙ at;
        read =
            subst (λ (b : List ℕ). IsReadAs kind b arrival) is
            (subst (λ (k : Kind). IsReadAs k r.datagram arrival) (one_kind flow r.port one.0 kind one.1 on) one.2);
      }

  one_more_arrives :
      (flow : ℕ) (kind : Kind) (time : ℕ) (bytes : List ℕ) (records : List Record) (r : Record) (taken arrivals : List Arrival)
      → AllZip (Arrives flow) (records_of flow records) taken → r.datagram ≡ bytes → r.time ≡ time → port_of flow kind ≡ r.port
      → AllZip (Arrives flow) (records_of flow (records ++ r ∷ [])) arrivals → OneMore kind time bytes taken arrivals
  one_more_arrives flow kind time bytes records r taken arrivals arrive is at on more =
      let own = one_more_record flow kind records r on in
      let begins = arrivals_begin media parity flow (records_of flow records) (r ∷ []) taken arrivals arrive
      (subst (λ (all : List Record). AllZip (Arrives flow) all arrivals) own more) in
      one_more_at flow kind time bytes r taken arrivals begins.0 is at on begins.1 begins.2

  pub record_breaks :
      PlaysBeforeComeNext
      → (playout : Playout) (flow : ℕ) (kind : Kind) (time : ℕ) (bytes : List ℕ) (state : State) (sum : FlowSum) (before after : Option Lanes)
      → BreaksAtDatagram kind time bytes state flow before after
      → (records : List Record) (r : Record) (lane : List ℕ) → HasTaken playout flow records state sum lane
      → r.datagram ≡ bytes → r.time ≡ time → port_of flow kind ≡ r.port → BreaksAtRecord playout flow records r lane before after
  record_breaks next playout flow kind time bytes state sum before after breaks records r lane taken is at on = record {
    part = breaks.part;
    grows = breaks.grows;
    next = λ (more : List ℕ) (shown : HasShown playout flow (records ++ r ∷ []) more).
        let one = one_more_arrives flow kind time bytes records r taken.arrivals shown.arrivals taken.arrive is at on shown.arrive in
        let begins = breaks.begins one.arrival one.came one.read in
        let come = next playout one.arrival taken.arrivals [] taken.plays begins.plays shown.plays taken.replies shown.replies state begins.now
        shown.state (arrivals_are_read flow records taken.arrivals taken.arrive) taken.takes begins.are
        (subst (λ (arrivals : List Arrival). TakesAll (opening playout) arrivals shown.plays shown.replies shown.state) one.all shown.takes) in
        front_of_lane lane breaks.part more taken.plays begins.plays come.0 shown.plays taken.lane_is begins.front come.1 shown.bytes_are;
  }

-- True datagrams of which none is missing peel: each slot is received before the play that closes it, and the flush closes
-- what no other play does.
use Rattle.std.proofs.Common.{◌≡◌, ◌+◌, ◌-◌, ◌<◌, ◌≤◌, ◌==◌, ◌^◌, ◌++◌, ℕ, ltb, List, [], ◌∷◌, length, min, Option, Some, None, IsSome, refl, sym, ap, subst, ◌∙◌, ⊎_elim, arith, le-ltb, eq-eqb, ne_eqb}
use Rattle.std.proofs.lemmas.Bool.{cases_lt, cases_eq, cond-true, cond-false}
use Rattle.std.proofs.lemmas.Option.{same_Some}
use Rattle.std.proofs.lemmas.List.{append-nil, length_push}
use Rattle.std.proofs.lemmas.List.Elements.{All-nil, All-push, Contains-append_left, Contains-append_right, Contains-push}
use Rattle.std.specs.List.{All}
use Rattle.std.specs.FinMap.{get}
use Rattle.fg_shape.specs.Playout.{Playout}
use Rattle.fg_words.specs.declared.Word.{Word}
use Rattle.fg_peel.specs.Laws.{TruthIsSolvable, SolutionsAreTrue}
use Rattle.fg_playout.specs.declared.reply.Reply.{Reply}
use Rattle.fg_playout.specs.declared.reply.Reply.TheVariants.{Admitted}
use Rattle.fg_playout.specs.State.{State, known, opening}
use Rattle.fg_playout.specs.Admission.{Parity, AdmitsMedia, AdmitsParity, IsFresh, IsLeastFree, equation_at, position_on, base_on, with_equation}
use Rattle.fg_playout.specs.Solution.{given}
use Rattle.fg_playout.specs.Play.{Play, IsPlay, HasMore}
use Rattle.fg_playout.specs.Held.{at_time}
use Rattle.fg_playout.specs.Run.{Arrival, carries, protects, refused, time_of, AreHeldPlays, ArePlaysHeld, unlimited, limited, ArePlaysDue, ArePlaysBefore, by_flush, by_due, TakesThen, Takes, TakesAll, IsFlush, IsRun}
use Rattle.fg_playout.specs.PlayedOn.{PlayOn, due_on, flushed_on, steps_held_on, held_on, before_on, taken_then_on, taken_on, all_taken_on}
use Rattle.fg_playout.specs.Existence.{RunsExist}
use Rattle.fg_playout.specs.Facts.{Holds}
use Rattle.fg_playout.specs.Laws.{IsRead, LiveStandUnderSerials, SolutionsArePeelings, MediaAdds, ParityAdds, FactsAreKept, RunsStayWithin, TakingsJoin}
use Rattle.fg_drill.specs.Repaired.{IsPeeled, ArrivalsPeel}
use Rattle.fg_drill.specs.True.{number_of, AreInFull, IsTrueArrival, ComesInTurn, AreTrueArrivals, last_after, AreSentTrue}
use Rattle.fg_drill.specs.TrueLaws.{FullArrivalsPeel, RunsAreLawful}
use Rattle.fg_peel.proofs.Options.{some_and}
use Rattle.fg_playout.proofs.Orderly.{known_ahead}
use Rattle.fg_playout.proofs.Following.{media_keeps_mark}
use Rattle.fg_drill.proofs.TrueRuns.{all_are_read, is_read, opening_is_true, taken_holds}
use Rattle.fg_drill.proofs.TrueTakings.{LeavesTruth, held_are_true, is_taken_truly, media_is_admitted, media_reaches, next_slot, none_is_fresh, plays_before_are_true, position_is_slot}

-- Each slot from the mark on and before this one is known.
abbrev AllReceived : ℕ → State → Type 0
AllReceived next desk = (slot : ℕ) → desk.mark ≤ slot → slot < next → IsSome (known desk slot)

same_received :
    (next : ℕ) (old new : State) → new.mark ≡ old.mark → known new ≡ known old → AllReceived next old → AllReceived next new
same_received next old new same_mark same_known all = λ slot ahead below.
    subst (λ (f : ℕ → Option Word). IsSome (f slot)) (sym same_known) (all slot (omega (arith, same_mark, ahead)) below)

-- A play takes none of them away.
play_keeps_received :
    (count next : ℕ) (old : State) (play : Play) (new : State) → IsPlay count old play new → AllReceived next old
    → AllReceived next new
play_keeps_received count next old play new is all = λ slot ahead below.
    let mark = is.mark in
    let same : known new slot ≡ known old slot =
    known_ahead new slot ahead ∙ is.media slot
    ∙ cond-false (ltb slot new.mark) None (get old.media slot) (le-ltb slot new.mark ahead)
    ∙ sym (known_ahead old slot (omega (arith, mark, ahead))) in
    subst (λ (o : Option Word). IsSome o) (sym same) (all slot (omega (arith, mark, ahead)) below)

-- A media datagram that is admitted adds its slot.
media_adds_received :
    (slot : ℕ) (old new : State) (number ssrc : ℕ) (word : Word) → MediaAdds → Holds old → ¬ IsFresh old ssrc
    → position_on old number ssrc ≡ Some slot → AdmitsMedia old number ssrc word Admitted new
    → (new.mark ≡ old.mark) × (AllReceived slot old → AllReceived (slot + 1) new)
media_adds_received slot old new number ssrc word adds holds stale at admits =
    let m = adds old new number ssrc word holds (λ fresh. absurd (stale fresh)) admits in
    let same : m.0 ≡ slot = same_Some m.0 slot (sym m.1 ∙ at) in
    let mark : new.mark ≡ old.mark = media_keeps_mark old new number ssrc word Admitted admits.after in (
      mark,
      λ all position ahead below. ⊎_elim
          (λ here. subst (λ (o : Option Word). IsSome o)
          (sym (m.4 position ∙ cond-true (position == m.0) (Some word) (known old position) (eq-eqb position m.0 here))) refl)
          (λ beside. subst (λ (o : Option Word). IsSome o)
          (sym (m.4 position ∙ cond-false (position == m.0) (Some word) (known old position) (ne_eqb position m.0 beside)))
          (all position (omega (arith, mark, ahead)) (omega (arith, same, below, beside))))
          (cases_eq position m.0),
    )

-- A parity datagram changes nothing of them.
parity_leaves_received :
    (old new : State) (parity : Parity) (reply : Reply) → ParityAdds → Holds old → AdmitsParity old parity reply new
    → (new.mark ≡ old.mark) × (known new ≡ known old)
parity_leaves_received old new parity Admitted adds holds admits =
    let after = some_and (base_on old parity.base)
    (λ position. (place : ℕ) × IsLeastFree old.equations place × (new ≡ with_equation old place (equation_at position parity)))
    admits.after in
    (ap (λ (s : State). s.mark) after.2.2, (adds old new parity holds admits).3)
parity_leaves_received old new parity reply adds holds admits =
    (ap (λ (s : State). s.mark) admits.after, ap (λ (s : State). known s) admits.after)

-- The media datagram that comes next is that of the next slot.
slot_is_next :
    (seq slot time number source : ℕ) (last : Option ℕ) (word : Word) → number ≡ number_of seq slot
    → ComesInTurn last slot (carries time number source word) → number ≡ number_of seq (next_slot last) → slot ≡ next_slot last
slot_is_next seq slot time number source None word is turn next = turn
slot_is_next seq slot time number source (Some before) word is turn next = omega (arith, is, turn.0, turn.1, next)

-- Of the slots before this one, those from a mark up to another are peeled.
abbrev ArePeeled : ℕ → List PlayOn → ℕ → ℕ → Type 0
ArePeeled next made mark mark' = (slot : ℕ) → slot < next → mark ≤ slot → slot < mark' → IsPeeled made slot

-- Of the slots before this one, those that plays leave are known, and those that they close are peeled.
record PlaysReceived (next : ℕ) (made : List PlayOn) (old new : State) : Type 0 where
  received : AllReceived next new
  peeled : ArePeeled next made old.mark new.mark

nothing_played :
    (next : ℕ) (old new : State) → new.mark ≡ old.mark → known new ≡ known old → AllReceived next old
    → PlaysReceived next [] old new
nothing_played next old new mark same all = record {
  received = same_received next old new mark same all;
  peeled = λ slot below ahead past. absurd (omega (arith, mark, ahead, past));
}

one_play :
    (count next : ℕ) (old : State) (play : Play) (new : State) → IsPlay count old play new → AllReceived next old
    → PlaysReceived next (record { desk = old; play = play } ∷ []) old new
one_play count next old play new is all =
    let first = is.first in
    let long = is.length_is in
    let mark = is.mark in
    record {
      received = play_keeps_received count next old play new is all;
      peeled = λ slot below ahead past. (
        record { desk = old; play = play },
        Contains-push [] (record { desk = old; play = play }),
        (omega (arith, first, ahead), omega (arith, first, long, mark, past)),
        given (all slot ahead below),
      );
    }

-- Plays and then plays.
plays_join :
    (next : ℕ) (before after : List PlayOn) (old between new : State) → ArePeeled next before old.mark between.mark
    → PlaysReceived next after between new → PlaysReceived next (before ++ after) old new
plays_join next before after old between new one other = record {
  received = other.received;
  peeled = λ slot below ahead past. ⊎_elim
      (λ (early : slot < between.mark).
      let p = one slot below ahead early in (p.0, Contains-append_left before after p.0 p.1, p.2, p.3))
      (λ (late : between.mark ≤ slot).
      let p = other.peeled slot below late past in (p.0, Contains-append_right before after p.0 p.1, p.2, p.3))
      (cases_lt slot between.mark);
}

due_received :
    (next : ℕ) (old : State) (seq ssrc : ℕ) (plays : List Play) (new : State) (due : ArePlaysDue old seq ssrc plays new)
    → AllReceived next old → PlaysReceived next (due_on old seq ssrc plays new due) old new
due_received next old seq ssrc [] new due all =
    nothing_played next old new (ap (λ (s : State). s.mark) due.1) (ap (λ (s : State). known s) due.1) all
due_received next old seq ssrc (play ∷ plays) new due all =
    let one = one_play old.playout.window next old play due.1.0 due.1.1 all in
    plays_join next (record { desk = old; play = play } ∷ []) (due_on due.1.0 seq ssrc plays new due.1.2) old due.1.0 new one.peeled
    (due_received next due.1.0 seq ssrc plays new due.1.2 one.received)

flush_received :
    (next : ℕ) (old : State) (plays : List Play) (new : State) (flush : IsFlush old plays new) → AllReceived next old
    → PlaysReceived next (flushed_on old plays new flush) old new
flush_received next old [] new flush all =
    nothing_played next old new (ap (λ (s : State). s.mark) flush.1) (ap (λ (s : State). known s) flush.1) all
flush_received next old (play ∷ plays) new flush all =
    let one = one_play (min old.playout.window (flush.1.highest + 1 - old.mark)) next old play flush.0 flush.1.plays all in
    plays_join next (record { desk = old; play = play } ∷ []) (flushed_on flush.0 plays new flush.2) old flush.0 new one.peeled
    (flush_received next flush.0 plays new flush.2 one.received)

before_received :
    (next : ℕ) (old : State) (seq ssrc : ℕ) (plays : List Play) (new : State) (before : ArePlaysBefore old seq ssrc plays new)
    → AllReceived next old → PlaysReceived next (before_on old seq ssrc plays new before) old new
before_received next old seq ssrc plays new (by_flush empty fresh flush counts) all =
    let is = flush_received next old plays empty flush all in
    subst (PlaysReceived next (flushed_on old plays empty flush) old) (sym counts)
    (record { received = is.received; peeled = is.peeled })
before_received next old seq ssrc plays new (by_due stale due) all = due_received next old seq ssrc plays new due all

-- A desk that is told a time knows what it knew.
steps_held_received :
    (next : ℕ) (old : State) (time : ℕ) (plays : List Play) (new : State) (steps : AreHeldPlays old time plays new)
    → AllReceived next old → PlaysReceived next (steps_held_on old time plays new steps) old new
steps_held_received next old time [] new steps all =
    nothing_played next old new (ap (λ (s : State). s.mark) steps.1) (ap (λ (s : State). known s) steps.1) all
steps_held_received next old time (play ∷ plays) new steps all =
    let step = steps.1 in
    let count : ℕ = min old.playout.window (step.greatest + 1 - old.mark) in
    let one = one_play count next (at_time old time) play steps.0 step.plays all in
    plays_join next (record { desk = at_time old time; play = play } ∷ []) (steps_held_on steps.0 time plays new steps.2)
    old steps.0 new one.peeled
    (steps_held_received next steps.0 time plays new steps.2 one.received)

held_received :
    (next : ℕ) (old : State) (time : ℕ) (plays : List Play) (new : State) (holds : ArePlaysHeld old time plays new)
    → AllReceived next old → PlaysReceived next (held_on old time plays new holds) old new
held_received next old time plays new (unlimited none no_plays same) all =
    nothing_played next old new (ap (λ (s : State). s.mark) same) (ap (λ (s : State). known s) same) all
held_received next old time plays new (limited some steps) all = steps_held_received next old time plays new steps all

pub flush_ends : (old : State) (plays : List Play) (new : State) → IsFlush old plays new → ¬ HasMore new
flush_ends old [] new flush = subst (λ (s : State). ¬ HasMore s) (sym flush.1) flush.0
flush_ends old (play ∷ plays) new flush = flush_ends flush.0 plays new flush.2

module _
    (stand : LiveStandUnderSerials) (peelings : SolutionsArePeelings) (solvable : TruthIsSolvable) (found : SolutionsAreTrue)
    (keeps : FactsAreKept) (media_adds : MediaAdds) (parity_adds : ParityAdds) (within : RunsStayWithin) (join : TakingsJoin)
    (playout : Playout) (seq ssrc count : ℕ) (truth : ℕ → Option Word) (arrivals : List Arrival)
    (sent : AreSentTrue playout seq ssrc truth arrivals) where
  -- After a datagram each slot before the next one is known or peeled, the mark isn't past the next one, and the datagrams that
  -- are left are all those from there on.
  record IsInFull (next : ℕ) (later : List Arrival) (made : List PlayOn) (old new : State) : Type 0 where
    plays : PlaysReceived next made old new
    near : new.mark ≤ next
    full : AreInFull seq ssrc count next later

  -- A media datagram adds its slot.
  media_in_full :
      (later : List Arrival) (time number source : ℕ) (word : Word) (plays : List Play) (reply : Reply) (old ready new : State)
      (last : Option ℕ) (slot : ℕ)
      → Holds old → LeavesTruth truth seq ssrc last old → IsTrueArrival seq ssrc truth slot (carries time number source word)
      → ComesInTurn last slot (carries time number source word)
      → AreInFull seq ssrc count (next_slot last) (carries time number source word ∷ later) → AllReceived (next_slot last) old
      → (before : ArePlaysBefore old number source plays ready) → AdmitsMedia ready number source word reply new
      → IsInFull (slot + 1) later (before_on old number source plays ready before) old new
  media_in_full later time number source word plays reply old ready new last slot holds is is_true turn full all before admits =
      let next : slot ≡ next_slot last = slot_is_next seq slot time number source last word is_true.0 turn full.0 in
      let reach = media_reaches last slot time number source word turn in
      let played = plays_before_are_true stand peelings solvable found keeps media_adds parity_adds truth sent.media seq ssrc
      last slot old plays ready holds is reach (omega (arith, next))
      (subst (λ (n : ℕ). ArePlaysBefore old n ssrc plays ready) is_true.0
      (subst (λ (s : ℕ). ArePlaysBefore old number s plays ready) is_true.1 before)) in
      let so = before_received (next_slot last) old number source plays ready before all in
      let admits_true : AdmitsMedia ready (number_of seq slot) ssrc word reply new =
      subst (λ (s : ℕ). AdmitsMedia ready (number_of seq slot) s word reply new) is_true.1
      (subst (λ (n : ℕ). AdmitsMedia ready n source word reply new) is_true.0 admits) in
      let is_admitted = media_is_admitted seq ssrc last slot ready played.top slot word reply reach played.top.mark
      (omega (arith, next)) admits_true.reply_is in
      let adds = media_adds_received slot ready new (number_of seq slot) ssrc word media_adds played.holds
      (none_is_fresh seq ssrc last slot ready played.top)
      (position_is_slot seq ssrc last slot ready played.top slot reach played.top.mark)
      (subst (λ (r : Reply). AdmitsMedia ready (number_of seq slot) ssrc word r new) is_admitted admits_true) in
      let near = played.top.mark in
      let mark = adds.0 in
      record {
        plays = record {
          received = adds.1 (λ position ahead below. so.received position ahead (omega (arith, next, below)));
          peeled = λ position below ahead past.
              so.peeled position (omega (arith, mark, near, next, past)) ahead (omega (arith, mark, past));
        };
        near = omega (arith, mark, near);
        full = subst (λ (n : ℕ). AreInFull seq ssrc count (n + 1) later) (sym next) full.2;
      }

  then_in_full :
      (later : List Arrival) (arrival : Arrival) (plays : List Play) (reply : Option Reply) (old new : State) (last : Option ℕ)
      (slot : ℕ)
      → Holds old → LeavesTruth truth seq ssrc last old → IsTrueArrival seq ssrc truth slot arrival → ComesInTurn last slot arrival
      → AreInFull seq ssrc count (next_slot last) (arrival ∷ later) → AllReceived (next_slot last) old
      → (takes : TakesThen old arrival plays reply new)
      → IsInFull (next_slot (last_after last slot arrival)) later (taken_then_on old arrival plays reply new takes) old new
  then_in_full later (carries time number source word) plays None old new last slot holds is is_true turn full all takes =
      absurd takes
  then_in_full later (carries time number source word) plays (Some reply) old new last slot holds is is_true turn full all takes =
      media_in_full later time number source word plays reply old takes.0 new last slot holds is is_true turn full all
      takes.1 takes.2
  then_in_full later (protects time stream parity) plays None old new last slot holds is is_true turn full all takes = absurd takes
  then_in_full later (protects time stream parity) plays (Some reply) old new last slot holds is is_true turn full all takes =
      let same = parity_leaves_received old new parity reply parity_adds holds takes.1 in
      let mark = same.0 in
      let near = is.top.mark in
      record {
        plays = nothing_played (next_slot last) old new same.0 same.1 all;
        near = omega (arith, mark, near);
        full = full;
      }
  then_in_full later (refused time stream) plays reply old new last slot holds is is_true turn full all takes = absurd turn

  -- First come the held plays.
  one_in_full :
      (later : List Arrival) (arrival : Arrival) (plays : List Play) (reply : Option Reply) (old new : State) (last : Option ℕ)
      (slot : ℕ)
      → Holds old → LeavesTruth truth seq ssrc last old → IsTrueArrival seq ssrc truth slot arrival → ComesInTurn last slot arrival
      → AreInFull seq ssrc count (next_slot last) (arrival ∷ later) → AllReceived (next_slot last) old
      → (takes : Takes old arrival plays reply new)
      → IsInFull (next_slot (last_after last slot arrival)) later (taken_on old arrival plays reply new takes) old new
  one_in_full later arrival plays reply old new last slot holds is is_true turn full all takes =
      let time : ℕ = time_of arrival in
      let held = held_are_true stand peelings solvable found keeps media_adds parity_adds truth sent.media seq ssrc
      last old time takes.held takes.ready holds is takes.holds in
      let so = held_received (next_slot last) old time takes.held takes.ready takes.holds all in
      let rest = then_in_full later arrival takes.after reply takes.ready new last slot held.holds held.leaves is_true turn full
      so.received takes.takes in
      let near = held.leaves.top.mark in
      record {
        plays = plays_join (next_slot (last_after last slot arrival)) (held_on old time takes.held takes.ready takes.holds)
            (taken_then_on takes.ready arrival takes.after reply new takes.takes) old takes.ready new
            (λ position below ahead past. so.peeled position (omega (arith, near, past)) ahead past)
            rest.plays;
        near = rest.near;
        full = rest.full;
      }

  all_in_full :
      (earlier later : List Arrival) (before plays : List Play) (first replies : List (Option Reply)) (taken new : State)
      (last : Option ℕ)
      → All IsRead earlier → length earlier + length later < 2 ^ 44
      → TakesAll (opening playout) earlier before first taken → LeavesTruth truth seq ssrc last taken
      → AreTrueArrivals seq ssrc truth last later → AreInFull seq ssrc count (next_slot last) later
      → AllReceived (next_slot last) taken → (takes : TakesAll taken later plays replies new)
      → PlaysReceived count (all_taken_on taken later plays replies new takes) taken new
  all_in_full earlier [] before plays first replies taken new last read few so is are full all takes =
      nothing_played count taken new (ap (λ (s : State). s.mark) takes.2) (ap (λ (s : State). known s) takes.2)
      (subst (λ (n : ℕ). AllReceived n taken) full all)
  all_in_full earlier (arrival ∷ later) before plays first [] taken new last read few so is are full all takes = absurd takes
  all_in_full earlier (arrival ∷ later) before plays first (reply ∷ replies) taken new last read few so is are full all takes =
      let holds = taken_holds within playout earlier before first taken sent.fits read (omega (arith, few)) so in
      let one = is_taken_truly stand peelings solvable found keeps media_adds parity_adds truth sent.media seq ssrc
      last are.0 taken arrival takes.0 reply takes.2 holds is are.1 are.2 takes.4 in
      let here = one_in_full later arrival takes.0 reply taken takes.2 last are.0 holds is are.1 are.2 full all takes.4 in
      let long = length_push earlier arrival in
      let near = here.near in
      plays_join count (taken_on taken arrival takes.0 reply takes.2 takes.4)
      (all_taken_on takes.2 later takes.1 replies new takes.5) taken takes.2 new
      (λ slot below ahead past. here.plays.peeled slot (omega (arith, near, past)) ahead past)
      (all_in_full (earlier ++ arrival ∷ []) later (before ++ takes.0) takes.1 (first ++ reply ∷ []) replies
      takes.2 new (last_after last are.0 arrival)
      (All-push IsRead earlier arrival read (is_read seq ssrc truth are.0 arrival sent.source sent.media are.1))
      (omega (arith, few, long))
      (join (opening playout) taken takes.2 earlier (arrival ∷ []) before takes.0 first (reply ∷ []) so
      (takes.0, [], takes.2, sym (append-nil takes.0), takes.4, (refl, refl, refl)))
      one.leaves are.3 here.full here.plays.received takes.5)

  all_peel :
      AreInFull seq ssrc count 0 arrivals → (plays : List Play) (replies : List (Option Reply))
      → IsRun playout arrivals plays replies → ArrivalsPeel playout arrivals count
  all_peel full plays replies run =
      let few = sent.few in
      let taken = all_in_full [] arrivals [] run.taken [] replies (opening playout) run.filled None
      (All-nil IsRead) (omega (arith, few)) (refl, refl, refl) (opening_is_true playout seq ssrc truth stand)
      sent.arrive full (λ slot ahead below. absurd (omega (arith, below))) run.takes in
      let all = plays_join count (all_taken_on (opening playout) arrivals run.taken replies run.filled run.takes)
      (flushed_on run.filled run.flushed run.empty run.flush) (opening playout) run.filled run.empty taken.peeled
      (flush_received count run.filled run.flushed run.empty run.flush taken.received) in
      record {
        plays = plays;
        replies = replies;
        run = run;
        peels = λ slot below. ⊎_elim
            (λ (played : slot < run.empty.mark). all.peeled slot below (omega arith) played)
            (λ (ahead : run.empty.mark ≤ slot).
            absurd (flush_ends run.filled run.flushed run.empty run.flush (slot, given (all.received slot ahead below), ahead)))
            (cases_lt slot run.empty.mark);
      }

pub full_arrivals_peel :
    RunsExist → RunsAreLawful → FullArrivalsPeel
full_arrivals_peel exist laws playout seq ssrc count truth arrivals sent full =
    let run = exist playout arrivals sent.fits.window.0 (all_are_read seq ssrc truth None arrivals sent.source sent.media sent.arrive) in
    all_peel laws.stand laws.peelings laws.solvable laws.found laws.keeps laws.media_adds laws.parity_adds laws.within laws.join
    playout seq ssrc count truth arrivals sent full run.0 run.1 run.2

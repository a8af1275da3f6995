-- The desks of what a flow has played so far come first in its run.
use Rattle.std.proofs.Common.{◌≡◌, ◌≢◌, ◌++◌, ℕ, List, [], ◌∷◌, Option, Some, None, inl, inr, refl, sym, ap, subst, ◌∙◌, append_assoc}
use Rattle.std.specs.List.{All}
use Rattle.fg_shape.specs.Playout.{Playout}
use Rattle.fg_peel.specs.Laws.{Uniqueness}
use Rattle.fg_playout.specs.declared.reply.Reply.{Reply}
use Rattle.fg_playout.specs.State.{State, opening}
use Rattle.fg_playout.specs.Admission.{IsDue, IsFresh}
use Rattle.fg_playout.specs.Play.{Play, IsPlay, IsFlushStep}
use Rattle.fg_playout.specs.Held.{at_time, IsHeldPlay}
use Rattle.fg_playout.specs.Run.{Arrival, carries, protects, refused, time_of, AreHeldPlays, ArePlaysHeld, unlimited, limited, ArePlaysDue, ArePlaysBefore, by_flush, by_due, TakesThen, Takes, TakesAll, IsFlush}
use Rattle.fg_playout.specs.Laws.{IsRead, HavePlayed, HavePlayedBefore, HavePlayedThen, HavePlayedFor, still_held, then_played, AreFlushSteps, AreHeldSteps}
use Rattle.fg_playout.specs.PlayedOn.{PlayOn, steps_held_on, held_on, due_on, before_on, taken_then_on, taken_on, all_taken_on, flushed_on}
use Rattle.fg_playout.specs.DesksJoin.{have_played_on, flush_steps_on, held_steps_on, played_before_on, played_then_on, played_for_on, TakenDesksComeFirst, DesksBeforeComeNext, DesksBeforeComeNextInRuns, FlushDesksComeNext}
use Rattle.fg_playout.proofs.Orderly.{IsOrderly, orderly_opening}
use Rattle.fg_playout.proofs.Plays.{orderly_after_play}
use Rattle.fg_playout.proofs.OnePlay.{one_play, one_state_after, one_flush_step, one_state_after_step}
use Rattle.fg_playout.proofs.Held.{at_time_orderly, one_held_play, one_state_after_held}
use Rattle.fg_playout.proofs.OneRun.{one_holding, one_taking_all}
use Rattle.fg_playout.proofs.PlayedOn.{one_held_on, one_all_taken_on}

-- Datagrams that are taken one after another

-- What the first ones do, what the others do, and that the desks are those of both.
record Split
    (old : State) (earlier later : List Arrival) (plays : List Play) (replies : List (Option Reply)) (new : State)
    (takes : TakesAll old (earlier ++ later) plays replies new) : Type 0 where
  before : List Play
  after : List Play
  first : List (Option Reply)
  second : List (Option Reply)
  between : State
  one : TakesAll old earlier before first between
  other : TakesAll between later after second new
  desks :
      all_taken_on old (earlier ++ later) plays replies new takes
      ≡ all_taken_on old earlier before first between one ++ all_taken_on between later after second new other

split :
    (old : State) (earlier later : List Arrival) (plays : List Play) (replies : List (Option Reply)) (new : State)
    (takes : TakesAll old (earlier ++ later) plays replies new) → Split old earlier later plays replies new takes
split old [] later plays replies new takes = record {
  before = [];
  after = plays;
  first = [];
  second = replies;
  between = old;
  one = (refl, refl, refl);
  other = takes;
  desks = refl;
}
split old (arrival ∷ earlier) later plays [] new takes = absurd takes
split old (arrival ∷ earlier) later plays (reply ∷ replies) new takes =
    let rest = split takes.2 earlier later takes.1 replies new takes.5 in
    let here : List PlayOn = taken_on old arrival takes.0 reply takes.2 takes.4 in
    record {
      before = takes.0 ++ rest.before;
      after = rest.after;
      first = reply ∷ rest.first;
      second = rest.second;
      between = rest.between;
      one = (takes.0, rest.before, takes.2, refl, takes.4, rest.one);
      other = rest.other;
      desks = ap (λ (made : List PlayOn). here ++ made) rest.desks
          ∙ sym (append_assoc here (all_taken_on takes.2 earlier rest.before rest.first rest.between rest.one)
          (all_taken_on rest.between later rest.after rest.second new rest.other));
    }

-- The first of the desks are these.
abbrev BeginOn : List PlayOn → List PlayOn → Type 0
BeginOn desks some = (after : List PlayOn) × (desks ≡ some ++ after)

one_more :
    (desk desk' : State) (play play' : Play) (desks some : List PlayOn) → desk ≡ desk' → play ≡ play' → BeginOn desks some
    → BeginOn (record { desk = desk'; play = play' } ∷ desks) (record { desk = desk; play = play } ∷ some)
one_more desk desk' play play' desks some d p begin =
    let d' : desk' ≡ desk = sym d in
    let p' : play' ≡ play = sym p in
    (begin.0, λ i. record { desk = d' i; play = p' i } ∷ begin.1 i)

-- They still do where others follow.
then_others : (desks some others : List PlayOn) → BeginOn desks some → BeginOn (desks ++ others) some
then_others desks some others begin =
    (begin.0 ++ others, ap (λ (made : List PlayOn). made ++ others) begin.1 ∙ append_assoc some begin.0 others)

module _ (unique : Uniqueness) where
  due_begin :
      (old old' : State) (seq ssrc : ℕ) (due plays : List Play) (now new : State) → old ≡ old' → IsOrderly old
      → (a : HavePlayed old seq ssrc due now) (b : ArePlaysDue old' seq ssrc plays new)
      → BeginOn (due_on old' seq ssrc plays new b) (have_played_on old seq ssrc due now a)
  due_begin old old' seq ssrc [] plays now new same orderly a b = (due_on old' seq ssrc plays new b, refl)
  due_begin old old' seq ssrc (play ∷ due) [] now new same orderly a b =
      absurd (b.0 (subst (λ (s : State). IsDue s seq ssrc) same a.0))
  due_begin old old' seq ssrc (play ∷ due) (play' ∷ plays) now new same orderly a b =
      let is : IsPlay old.playout.window old play' b.1.0 =
      subst (λ (s : State). IsPlay s.playout.window s play' b.1.0) (sym same) b.1.1 in
      one_more old old' play play' (due_on b.1.0 seq ssrc plays new b.1.2) (have_played_on a.1.0 seq ssrc due now a.1.2) same
      (one_play unique old.playout.window old orderly play play' a.1.0 b.1.0 a.1.1 is)
      (due_begin a.1.0 b.1.0 seq ssrc due plays now new
      (one_state_after unique old.playout.window old orderly play play' a.1.0 b.1.0 a.1.1 is)
      (orderly_after_play old.playout.window old play a.1.0 a.1.1 orderly) a.1.2 b.1.2)

  steps_begin :
      (old old' : State) (flushed plays : List Play) (now new : State) → old ≡ old' → IsOrderly old
      → (a : AreFlushSteps old flushed now) (b : IsFlush old' plays new)
      → BeginOn (flushed_on old' plays new b) (flush_steps_on old flushed now a)
  steps_begin old old' [] plays now new same orderly a b = (flushed_on old' plays new b, refl)
  steps_begin old old' (play ∷ flushed) [] now new same orderly a b =
      let step = subst (λ (s : State). IsFlushStep s play a.0) same a.1 in
      absurd (b.0 (step.highest, step.highest_is.inside, step.more))
  steps_begin old old' (play ∷ flushed) (play' ∷ plays) now new same orderly a b =
      let step = subst (λ (s : State). IsFlushStep s play' b.0) (sym same) b.1 in
      one_more old old' play play' (flushed_on b.0 plays new b.2) (flush_steps_on a.0 flushed now a.2) same
      (one_flush_step unique old orderly play play' a.0 b.0 a.1 step)
      (steps_begin a.0 b.0 flushed plays now new (one_state_after_step unique old orderly play play' a.0 b.0 a.1 step)
      (orderly_after_play _ old play a.0 a.1.plays orderly) a.2 b.2)

  held_begin :
      (old old' : State) (time : ℕ) (so_far plays : List Play) (now new : State) → old ≡ old' → IsOrderly old
      → (a : AreHeldSteps old time so_far now) (b : AreHeldPlays old' time plays new)
      → BeginOn (steps_held_on old' time plays new b) (held_steps_on old time so_far now a)
  held_begin old old' time [] plays now new same orderly a b = (steps_held_on old' time plays new b, refl)
  held_begin old old' time (play ∷ so_far) [] now new same orderly a b =
      let step = subst (λ (s : State). IsHeldPlay (at_time s time) play a.0) same a.1 in
      absurd (b.0 step.greatest step.greatest_is.inside)
  held_begin old old' time (play ∷ so_far) (play' ∷ plays) now new same orderly a b =
      let step = subst (λ (s : State). IsHeldPlay (at_time s time) play' b.0) (sym same) b.1 in
      let at = at_time_orderly old time orderly in
      one_more (at_time old time) (at_time old' time) play play' (steps_held_on b.0 time plays new b.2)
      (held_steps_on a.0 time so_far now a.2) (ap (λ (s : State). at_time s time) same)
      (one_held_play unique (at_time old time) at play play' a.0 b.0 a.1 step)
      (held_begin a.0 b.0 time so_far plays now new
      (one_state_after_held unique (at_time old time) at play play' a.0 b.0 a.1 step)
      (orderly_after_play _ (at_time old time) play a.0 a.1.plays at) a.2 b.2)

  limited_begin :
      (old old' : State) (time : ℕ) (so_far plays : List Play) (now new : State) → old ≡ old' → IsOrderly old
      → old.playout.hold ≢ 0 → (a : AreHeldSteps old time so_far now) (b : ArePlaysHeld old' time plays new)
      → BeginOn (held_on old' time plays new b) (held_steps_on old time so_far now a)
  limited_begin old old' time so_far plays now new same orderly some a (unlimited none no_plays is) =
      absurd (some (ap (λ (s : State). s.playout.hold) same ∙ none))
  limited_begin old old' time so_far plays now new same orderly some a (limited some' b) =
      held_begin old old' time so_far plays now new same orderly a b

  -- What is played before a datagram begins with what was played so far.
  before_begin :
      (old old' : State) (seq ssrc : ℕ) (so_far plays : List Play) (now new : State) → old ≡ old' → IsOrderly old
      → (a : HavePlayedBefore old seq ssrc so_far now) (b : ArePlaysBefore old' seq ssrc plays new)
      → BeginOn (before_on old' seq ssrc plays new b) (played_before_on old seq ssrc so_far now a)
  before_begin old old' seq ssrc so_far plays now new same orderly (inl steps) (by_flush empty fresh flush counts) =
      steps_begin old old' so_far plays now empty same orderly steps.1 flush
  before_begin old old' seq ssrc so_far plays now new same orderly (inl steps) (by_due stale due) =
      absurd (stale (subst (λ (s : State). IsFresh s ssrc) same steps.0))
  before_begin old old' seq ssrc so_far plays now new same orderly (inr played) (by_flush empty fresh flush counts) =
      absurd (played.0 (subst (λ (s : State). IsFresh s ssrc) (sym same) fresh))
  before_begin old old' seq ssrc so_far plays now new same orderly (inr played) (by_due stale due) =
      due_begin old old' seq ssrc so_far plays now new same orderly played.1 due

  then_begin :
      (old old' : State) (arrival : Arrival) (so_far plays : List Play) (reply : Option Reply) (now new : State)
      → old ≡ old' → IsOrderly old
      → (a : HavePlayedThen old arrival so_far now) (b : TakesThen old' arrival plays reply new)
      → BeginOn (taken_then_on old' arrival plays reply new b) (played_then_on old arrival so_far now a)
  then_begin old old' (carries time seq ssrc word) so_far plays None now new same orderly a b = absurd b
  then_begin old old' (carries time seq ssrc word) so_far plays (Some reply) now new same orderly a b =
      before_begin old old' seq ssrc so_far plays now b.0 same orderly a b.1
  then_begin old old' (protects time stream parity) so_far plays reply now new same orderly a b = ([], refl)
  then_begin old old' (refused time stream) so_far plays reply now new same orderly a b = ([], refl)

  -- What a datagram plays begins with what it has played so far.
  taking_begins :
      (old old' : State) (arrival : Arrival) (so_far plays : List Play) (reply : Option Reply) (now new : State)
      → old ≡ old' → IsOrderly old → (a : HavePlayedFor old arrival so_far now) (b : Takes old' arrival plays reply new)
      → BeginOn (taken_on old' arrival plays reply new b) (played_for_on old arrival so_far now a)
  taking_begins old old' arrival so_far plays reply now new same orderly (still_held some steps) takes =
      then_others (held_on old' (time_of arrival) takes.held takes.ready takes.holds)
      (held_steps_on old (time_of arrival) so_far now steps)
      (taken_then_on takes.ready arrival takes.after reply new takes.takes)
      (limited_begin old old' (time_of arrival) so_far takes.held now takes.ready same orderly some steps takes.holds)
  taking_begins old old' arrival so_far plays reply now new same orderly (then_played held after ready holds are played) takes =
      let end = one_holding unique old arrival held takes.held ready takes.ready orderly holds
      (subst (λ (s : State). ArePlaysHeld s (time_of arrival) takes.held takes.ready) (sym same) takes.holds) in
      let first = one_held_on unique old old' (time_of arrival) held takes.held ready takes.ready same orderly holds takes.holds in
      let first' = sym first in
      let begin = then_begin ready takes.ready arrival after takes.after reply now new end.state end.orderly played takes.takes in (
        begin.0,
        (λ i. first' i ++ begin.1 i)
            ∙ sym (append_assoc (held_on old (time_of arrival) held ready holds) (played_then_on ready arrival after now played) begin.0),
      )

  -- The desks of the next datagram's plays begin with those of what was played.
  next_begins :
      (old old' : State) (next : Arrival) (later : List Arrival) (due plays : List Play) (replies : List (Option Reply))
      (now new : State)
      → old ≡ old' → IsOrderly old → (a : HavePlayedFor old next due now) (b : TakesAll old' (next ∷ later) plays replies new)
      → BeginOn (all_taken_on old' (next ∷ later) plays replies new b) (played_for_on old next due now a)
  next_begins old old' next later due plays [] now new same orderly a b = absurd b
  next_begins old old' next later due plays (reply ∷ replies) now new same orderly a b =
      then_others (taken_on old' next b.0 reply b.2 b.4) (played_for_on old next due now a)
      (all_taken_on b.2 later b.1 replies new b.5) (taking_begins old old' next due b.0 reply now b.2 same orderly a b.4)

  -- What is taken after the first datagrams, and that the desks of these come before.
  record GoesOn (taken : State) (later : List Arrival) (new : State) (desks some : List PlayOn) : Type 0 where
    after : List Play
    second : List (Option Reply)
    between : State
    same : taken ≡ between
    orderly : IsOrderly taken
    takes : TakesAll between later after second new
    are : desks ≡ some ++ all_taken_on between later after second new takes

  goes_on :
      (playout : Playout) (earlier later : List Arrival) (before plays : List Play) (first replies : List (Option Reply))
      (taken new : State)
      → All IsRead earlier → (one : TakesAll (opening playout) earlier before first taken)
      → (all : TakesAll (opening playout) (earlier ++ later) plays replies new)
      → GoesOn taken later new (all_taken_on (opening playout) (earlier ++ later) plays replies new all)
      (all_taken_on (opening playout) earlier before first taken one)
  goes_on playout earlier later before plays first replies taken new read one all =
      let parts = split (opening playout) earlier later plays replies new all in
      let end = one_taking_all unique (opening playout) earlier before parts.before first parts.first taken parts.between
      (orderly_opening playout) read one parts.one in
      let on = one_all_taken_on unique (opening playout) (opening playout) earlier before parts.before first parts.first
      taken parts.between refl (orderly_opening playout) read one parts.one in
      let others : List PlayOn = all_taken_on parts.between later parts.after parts.second new parts.other in
      record {
        after = parts.after;
        second = parts.second;
        between = parts.between;
        same = end.state;
        orderly = end.orderly;
        takes = parts.other;
        are = parts.desks ∙ ap (λ (made : List PlayOn). made ++ others) (sym on);
      }

  pub taken_desks_come_first : TakenDesksComeFirst
  taken_desks_come_first playout earlier later before plays first replies taken read one run =
      let rest = goes_on playout earlier later before run.taken first replies taken run.filled read one run.takes in
      then_others (all_taken_on (opening playout) (earlier ++ later) run.taken replies run.filled run.takes)
      (all_taken_on (opening playout) earlier before first taken one)
      (flushed_on run.filled run.flushed run.empty run.flush)
      (all_taken_on rest.between later rest.after rest.second run.filled rest.takes, rest.are)

  pub desks_before_come_next : DesksBeforeComeNext
  desks_before_come_next playout next earlier later before due plays first replies taken now new read one played all =
      let rest = goes_on playout earlier (next ∷ later) before plays first replies taken new read one all in
      let begin = next_begins taken rest.between next later due rest.after rest.second now new rest.same rest.orderly played rest.takes in
      let some : List PlayOn = all_taken_on (opening playout) earlier before first taken one in
      (begin.0, rest.are ∙ ap (λ (made : List PlayOn). some ++ made) begin.1)

  pub desks_before_come_next_in_runs : DesksBeforeComeNextInRuns
  desks_before_come_next_in_runs playout next earlier later before due plays first replies taken now read one played run =
      let begin = desks_before_come_next playout next earlier later before due run.taken first replies taken now run.filled read one played run.takes in
      let some : List PlayOn = all_taken_on (opening playout) earlier before first taken one in
      let so_far : List PlayOn = played_for_on taken next due now played in
      let others : List PlayOn = flushed_on run.filled run.flushed run.empty run.flush in (
        begin.0 ++ others,
        ap (λ (made : List PlayOn). made ++ others) begin.1
            ∙ append_assoc some (so_far ++ begin.0) others
            ∙ ap (λ (made : List PlayOn). some ++ made) (append_assoc so_far begin.0 others),
      )

  pub flush_desks_come_next : FlushDesksComeNext
  flush_desks_come_next playout arrivals before flushed plays first replies taken now read one steps run =
      let end = one_taking_all unique (opening playout) arrivals before run.taken first replies taken run.filled
      (orderly_opening playout) read one run.takes in
      let on = one_all_taken_on unique (opening playout) (opening playout) arrivals before run.taken first replies
      taken run.filled refl (orderly_opening playout) read one run.takes in
      let on' = sym on in
      let begin = steps_begin taken run.filled flushed run.flushed now run.empty end.state end.orderly steps run.flush in
      (begin.0, λ i. on' i ++ begin.1 i)

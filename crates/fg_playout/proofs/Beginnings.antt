-- What a flow has played so far is how its run begins.
use Rattle.std.proofs.Common.{◌≡◌, ◌≢◌, ◌+◌, ◌-◌, ◌++◌, ℕ, min, List, [], ◌∷◌, Option, Some, None, sym, ap, subst, ◌∙◌, ⊎_elim, append_assoc}
use Rattle.std.specs.List.{All}
use Rattle.fg_shape.specs.Playout.{Playout}
use Rattle.fg_peel.specs.Laws.{Uniqueness}
use Rattle.fg_playout.specs.declared.reply.Reply.{Reply}
use Rattle.fg_playout.specs.State.{State, opening}
use Rattle.fg_playout.specs.Play.{Play}
use Rattle.fg_playout.specs.Held.{at_time}
use Rattle.fg_playout.specs.Run.{Arrival, carries, protects, refused, time_of, AreHeldPlays, ArePlaysHeld, unlimited, limited, ArePlaysDue, ArePlaysBefore, by_flush, by_due, TakesThen, Takes, TakesAll, IsFlush}
use Rattle.fg_playout.specs.Laws.{IsRead, HavePlayed, HavePlayedBefore, HavePlayedThen, HavePlayedFor, still_held, then_played, AreFlushSteps, AreHeldSteps, OneTaking, TakenPlaysComeFirst, PlaysBeforeComeNext, FlushStepsComeNext}
use Rattle.fg_playout.proofs.Orderly.{IsOrderly, orderly_opening}
use Rattle.fg_playout.proofs.Plays.{orderly_after_play}
use Rattle.fg_playout.proofs.OnePlay.{one_play, one_state_after, one_flush_step, one_state_after_step}
use Rattle.fg_playout.proofs.Held.{at_time_orderly, one_held_play, one_state_after_held}
use Rattle.fg_playout.proofs.OneRun.{one_holding, one_taking_all}
use Rattle.fg_playout.proofs.Following.{later_changes_nothing}

-- The first of the plays are these.
abbrev pub BeginWith : List Play → List Play → Type 0
BeginWith plays some = (after : List Play) × (plays ≡ some ++ after)

pub one_more : (play play' : Play) (plays some : List Play) → play' ≡ play → BeginWith plays some → BeginWith (play' ∷ plays) (play ∷ some)
one_more play play' plays some same begin = (begin.0, λ i. same i ∷ begin.1 i)

append_more : (plays some other rest : List Play) → plays ≡ some ++ rest → BeginWith rest other → BeginWith plays (some ++ other)
append_more plays some other rest is begin =
    (begin.0, is ∙ ap (λ (ps : List Play). some ++ ps) begin.1 ∙ sym (append_assoc some other begin.0))

module _ (unique : Uniqueness) where
  due_begin :
      (old : State) (seq ssrc : ℕ) (due plays : List Play) (now new : State) → IsOrderly old → HavePlayed old seq ssrc due now
      → ArePlaysDue old seq ssrc plays new → BeginWith plays due
  due_begin old seq ssrc [] plays now new orderly a b = (plays, λ i. plays)
  due_begin old seq ssrc (play ∷ due) [] now new orderly a b = absurd (b.0 a.0)
  due_begin old seq ssrc (play ∷ due) (play' ∷ plays) now new orderly a b =
      let state : b.1.0 ≡ a.1.0 = one_state_after unique old.playout.window old orderly play' play b.1.0 a.1.0 b.1.1 a.1.1 in
      one_more play play' plays due (one_play unique old.playout.window old orderly play' play b.1.0 a.1.0 b.1.1 a.1.1)
      (due_begin a.1.0 seq ssrc due plays now new (orderly_after_play old.playout.window old play a.1.0 a.1.1 orderly) a.1.2
      (subst (λ (s : State). ArePlaysDue s seq ssrc plays new) state b.1.2))

  steps_begin :
      (old : State) (flushed plays : List Play) (now empty : State) → IsOrderly old → AreFlushSteps old flushed now
      → IsFlush old plays empty → BeginWith plays flushed
  steps_begin old [] plays now empty orderly a b = (plays, λ i. plays)
  steps_begin old (play ∷ flushed) [] now empty orderly a b = absurd (b.0 (a.1.highest, a.1.highest_is.inside, a.1.more))
  steps_begin old (play ∷ flushed) (play' ∷ plays) now empty orderly a b =
      let state : b.0 ≡ a.0 = one_state_after_step unique old orderly play' play b.0 a.0 b.1 a.1 in
      one_more play play' plays flushed (one_flush_step unique old orderly play' play b.0 a.0 b.1 a.1)
      (steps_begin a.0 flushed plays now empty (orderly_after_play (min old.playout.window (a.1.highest + 1 - old.mark)) old play a.0 a.1.plays orderly)
      a.2 (subst (λ (s : State). IsFlush s plays empty) state b.2))

  -- What is played before a datagram begins with what was played so far.
  before_begin :
      (old : State) (seq ssrc : ℕ) (so_far plays : List Play) (now new : State) → IsOrderly old
      → HavePlayedBefore old seq ssrc so_far now → ArePlaysBefore old seq ssrc plays new → BeginWith plays so_far
  before_begin old seq ssrc so_far plays now new orderly a (by_flush empty fresh flush counts) = ⊎_elim
      (λ steps. steps_begin old so_far plays now empty orderly steps.1 flush)
      (λ played. absurd (played.0 fresh))
      a
  before_begin old seq ssrc so_far plays now new orderly a (by_due stale due) = ⊎_elim
      (λ steps. absurd (stale steps.0))
      (λ played. due_begin old seq ssrc so_far plays now new orderly played.1 due)
      a

  pub one_taking : OneTaking
  one_taking playout arrivals plays plays' replies replies' new new' read a b =
      let same = one_taking_all unique (opening playout) arrivals plays plays' replies replies' new new'
      (orderly_opening playout) read a b in
      (same.play, same.answers, same.state)

  -- A run after its first datagrams.
  record GoesOn (later : List Arrival) (before taken : List Play) (between filled : State) : Type 0 where
    after : List Play
    second : List (Option Reply)
    is : taken ≡ before ++ after
    takes : TakesAll between later after second filled
    orderly : IsOrderly between

  goes_on :
      (playout : Playout) (earlier later : List Arrival) (before taken : List Play) (first replies : List (Option Reply))
      (between filled : State)
      → All IsRead earlier → TakesAll (opening playout) earlier before first between
      → TakesAll (opening playout) (earlier ++ later) taken replies filled → GoesOn later before taken between filled
  goes_on playout earlier later before taken first replies between filled read a b =
      let parts = later_changes_nothing (opening playout) filled earlier later taken replies b in
      let same = one_taking_all unique (opening playout) earlier parts.1 before parts.3 first parts.0 between
      (orderly_opening playout) read parts.5 a in
      record {
        after = parts.2;
        second = parts.4;
        is = parts.7 ∙ ap (λ (ps : List Play). ps ++ parts.2) same.play;
        takes = subst (λ (s : State). TakesAll s later parts.2 parts.4 filled) same.state parts.6;
        orderly = subst IsOrderly same.state same.orderly;
      }

  pub taken_plays_come_first : TakenPlaysComeFirst
  taken_plays_come_first playout earlier later before plays first replies taken read a run =
      let rest = goes_on playout earlier later before run.taken first replies taken run.filled read a run.takes in (
        rest.after ++ run.flushed,
        run.plays_are ∙ ap (λ (ps : List Play). ps ++ run.flushed) rest.is ∙ append_assoc before rest.after run.flushed,
      )

  held_begin :
      (old : State) (time : ℕ) (so_far plays : List Play) (now new : State) → IsOrderly old → AreHeldSteps old time so_far now
      → AreHeldPlays old time plays new → BeginWith plays so_far
  held_begin old time [] plays now new orderly a b = (plays, λ i. plays)
  held_begin old time (play ∷ so_far) [] now new orderly a b = absurd (b.0 a.1.greatest a.1.greatest_is.inside)
  held_begin old time (play ∷ so_far) (play' ∷ plays) now new orderly a b =
      let at = at_time_orderly old time orderly in
      let state : b.0 ≡ a.0 = one_state_after_held unique (at_time old time) at play' play b.0 a.0 b.1 a.1 in
      one_more play play' plays so_far (one_held_play unique (at_time old time) at play' play b.0 a.0 b.1 a.1)
      (held_begin a.0 time so_far plays now new
      (orderly_after_play (min old.playout.window (a.1.greatest + 1 - old.mark)) (at_time old time) play a.0 a.1.plays at)
      a.2 (subst (λ (s : State). AreHeldPlays s time plays new) state b.2))

  limited_begin :
      (old : State) (time : ℕ) (so_far plays : List Play) (now new : State) → IsOrderly old → old.playout.hold ≢ 0
      → AreHeldSteps old time so_far now → ArePlaysHeld old time plays new → BeginWith plays so_far
  limited_begin old time so_far plays now new orderly some a (unlimited none no_plays same) = absurd (some none)
  limited_begin old time so_far plays now new orderly some a (limited some' b) = held_begin old time so_far plays now new orderly a b

  then_begin :
      (old : State) (arrival : Arrival) (so_far plays : List Play) (reply : Option Reply) (now new : State) → IsOrderly old
      → HavePlayedThen old arrival so_far now → TakesThen old arrival plays reply new → BeginWith plays so_far
  then_begin old (carries time seq ssrc word) so_far plays None now new orderly a b = absurd b
  then_begin old (carries time seq ssrc word) so_far plays (Some reply) now new orderly a b =
      before_begin old seq ssrc so_far plays now b.0 orderly a b.1
  then_begin old (protects time stream parity) so_far plays reply now new orderly a b =
      subst (λ (ps : List Play). BeginWith plays ps) (sym a.0) (plays, λ i. plays)
  then_begin old (refused time stream) so_far plays reply now new orderly a b =
      subst (λ (ps : List Play). BeginWith plays ps) (sym a.0) (plays, λ i. plays)

  -- What a datagram plays begins with what it has played so far.
  taking_begins :
      (old : State) (arrival : Arrival) (so_far plays : List Play) (reply : Option Reply) (now new : State) → IsOrderly old
      → HavePlayedFor old arrival so_far now → Takes old arrival plays reply new → BeginWith plays so_far
  taking_begins old arrival so_far plays reply now new orderly (still_held some steps) takes =
      let begin = limited_begin old (time_of arrival) so_far takes.held now takes.ready orderly some steps takes.holds in (
        begin.0 ++ takes.after,
        takes.plays_are ∙ ap (λ (ps : List Play). ps ++ takes.after) begin.1 ∙ append_assoc so_far begin.0 takes.after,
      )
  taking_begins old arrival so_far plays reply now new orderly (then_played held after ready holds are played) takes =
      let same = one_holding unique old arrival takes.held held takes.ready ready orderly takes.holds holds in
      let begin = then_begin ready arrival after takes.after reply now new (subst IsOrderly same.state same.orderly) played
      (subst (λ (s : State). TakesThen s arrival takes.after reply new) same.state takes.takes) in (
        begin.0,
        takes.plays_are
            ∙ (λ i. same.play i ++ begin.1 i)
            ∙ sym (append_assoc held after begin.0)
            ∙ ap (λ (ps : List Play). ps ++ begin.0) (sym are),
      )

  -- The plays before the next datagram begin with those that were played.
  next_begins :
      (taken now filled : State) (next : Arrival) (later : List Arrival) (due after : List Play)
      (second : List (Option Reply)) → IsOrderly taken → HavePlayedFor taken next due now
      → TakesAll taken (next ∷ later) after second filled → BeginWith after due
  next_begins taken now filled next later due after [] orderly played takes = absurd takes
  next_begins taken now filled next later due after (reply ∷ second) orderly played takes =
      let begin = taking_begins taken next due takes.0 reply now takes.2 orderly played takes.4 in (
        begin.0 ++ takes.1,
        takes.3 ∙ ap (λ (ps : List Play). ps ++ takes.1) begin.1 ∙ append_assoc due begin.0 takes.1,
      )

  pub plays_before_come_next : PlaysBeforeComeNext
  plays_before_come_next playout next earlier later before due plays first replies taken now new read a played takes =
      let rest = goes_on playout earlier (next ∷ later) before plays first replies taken new read a takes in
      let begin = next_begins taken now new next later due rest.after rest.second rest.orderly played rest.takes in
      (begin.0, rest.is ∙ ap (λ (ps : List Play). before ++ ps) begin.1)

  pub flush_steps_come_next : FlushStepsComeNext
  flush_steps_come_next playout arrivals before flushed plays first replies taken now read a steps run =
      let same = one_taking_all unique (opening playout) arrivals run.taken before replies first run.filled taken
      (orderly_opening playout) read run.takes a in
      let orderly = subst IsOrderly same.state same.orderly in
      let begin = steps_begin taken flushed run.flushed now run.empty orderly steps
      (subst (λ (s : State). IsFlush s run.flushed run.empty) same.state run.flush) in (
        begin.0,
        run.plays_are ∙ ap (λ (ps : List Play). ps ++ run.flushed) same.play ∙ ap (λ (ps : List Play). before ++ ps) begin.1,
      )

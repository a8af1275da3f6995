-- Parts of a run join, and end where nothing more is to be done.
use Rattle.std.proofs.Common.{◌≡◌, ◌↔◌, ◌++◌, ℕ, List, [], ◌∷◌, Option, None, sym, ap, subst, ◌∙◌, append_assoc}
use Rattle.fg_playout.specs.declared.reply.Reply.{Reply}
use Rattle.fg_playout.specs.State.{State}
use Rattle.fg_playout.specs.Admission.{IsDue, IsFresh, counted}
use Rattle.fg_playout.specs.Solution.{InClosure, given, derived}
use Rattle.fg_playout.specs.Play.{Play, HasMore}
use Rattle.fg_playout.specs.Held.{IsHeldStep}
use Rattle.fg_playout.specs.Run.{AreHeldPlays, limited, ArePlaysDue, by_flush, by_due, TakesAll, IsFlush}
use Rattle.fg_playout.proofs.Senders.{same_fresh, due_is_stale}
use Rattle.fg_playout.specs.Laws.{AreFlushSteps, AreHeldSteps, HavePlayed, FlushEndsBefore, DueEndBefore, ReadyAfterPlays, TakingsJoin, PlaysDueJoin, PlaysDueEnd, FlushStepsJoin, FlushStepsEnd, HeldStepsJoin, HeldStepsEnd}

pub takings_join : TakingsJoin
takings_join old between new [] later before after first second one other =
    let P : List Play → List (Option Reply) → State → Type 0 =
    λ ps rs s. TakesAll s later after second new → TakesAll old later (ps ++ after) (rs ++ second) new in
    let none : P [] [] old = λ takes. takes in
    subst (λ (s : State). P before first s) (sym one.2)
    (subst (λ (rs : List (Option Reply)). P before rs old) (sym one.1) (subst (λ (ps : List Play). P ps [] old) (sym one.0) none)) other
takings_join old between new (arrival ∷ earlier) later before after [] second one other = absurd one
takings_join old between new (arrival ∷ earlier) later before after (reply ∷ first) second one other = (
  one.0,
  one.1 ++ after,
  one.2,
  ap (λ (ps : List Play). ps ++ after) one.3 ∙ append_assoc one.0 one.1 after,
  one.4,
  takings_join one.2 between new earlier later one.1 after first second one.5 other,
)

pub plays_due_join : PlaysDueJoin
plays_due_join old between new seq ssrc [] after one other = subst (λ (s : State). HavePlayed s seq ssrc after new) one other
plays_due_join old between new seq ssrc (play ∷ before) after one other =
    (one.0, (one.1.0, one.1.1, plays_due_join one.1.0 between new seq ssrc before after one.1.2 other))

due_are_played :
    (old : State) (seq ssrc : ℕ) (plays : List Play) (new : State) → ArePlaysDue old seq ssrc plays new
    → HavePlayed old seq ssrc plays new × (¬ IsDue new seq ssrc)
due_are_played old seq ssrc [] new due = (due.1, subst (λ (s : State). ¬ IsDue s seq ssrc) (sym due.1) due.0)
due_are_played old seq ssrc (play ∷ plays) new due =
    let rest = due_are_played due.1.0 seq ssrc plays new due.1.2 in
    ((due.0, (due.1.0, due.1.1, rest.0)), rest.1)

played_are_due :
    (old : State) (seq ssrc : ℕ) (plays : List Play) (new : State) → HavePlayed old seq ssrc plays new → ¬ IsDue new seq ssrc
    → ArePlaysDue old seq ssrc plays new
played_are_due old seq ssrc [] new played none = (subst (λ (s : State). ¬ IsDue s seq ssrc) played none, played)
played_are_due old seq ssrc (play ∷ plays) new played none =
    (played.0, (played.1.0, played.1.1, played_are_due played.1.0 seq ssrc plays new played.1.2 none))

pub plays_due_end : PlaysDueEnd
plays_due_end old new seq ssrc plays = (due_are_played old seq ssrc plays new, λ h. played_are_due old seq ssrc plays new h.0 h.1)

pub flush_steps_join : FlushStepsJoin
flush_steps_join old between new [] after one other = subst (λ (s : State). AreFlushSteps s after new) one other
flush_steps_join old between new (play ∷ before) after one other =
    (one.0, one.1, flush_steps_join one.0 between new before after one.2 other)

flush_is_steps : (old new : State) (plays : List Play) → IsFlush old plays new → AreFlushSteps old plays new × (¬ HasMore new)
flush_is_steps old new [] flush = (flush.1, subst (λ (s : State). ¬ HasMore s) (sym flush.1) flush.0)
flush_is_steps old new (play ∷ plays) flush =
    let rest = flush_is_steps flush.0 new plays flush.2 in
    ((flush.0, flush.1, rest.0), rest.1)

steps_are_flush : (old new : State) (plays : List Play) → AreFlushSteps old plays new → ¬ HasMore new → IsFlush old plays new
steps_are_flush old new [] steps none = (subst (λ (s : State). ¬ HasMore s) steps none, steps)
steps_are_flush old new (play ∷ plays) steps none = (steps.0, steps.1, steps_are_flush steps.0 new plays steps.2 none)

pub flush_steps_end : FlushStepsEnd
flush_steps_end old new plays = (flush_is_steps old new plays, λ h. steps_are_flush old new plays h.0 h.1)

pub held_steps_join : HeldStepsJoin
held_steps_join old between new time [] after one other = subst (λ (s : State). AreHeldSteps s time after new) one other
held_steps_join old between new time (play ∷ before) after one other =
    (one.0, one.1, held_steps_join one.0 between new time before after one.2 other)

steps_are_held : (old last new : State) (time : ℕ) (plays : List Play) → AreHeldSteps old time plays last → IsHeldStep last time None new → AreHeldPlays old time plays new
steps_are_held old last new time [] steps none = subst (λ (s : State). IsHeldStep s time None new) steps none
steps_are_held old last new time (play ∷ plays) steps none = (steps.0, steps.1, steps_are_held steps.0 last new time plays steps.2 none)

pub held_steps_end : HeldStepsEnd
held_steps_end old last new time plays some steps none = limited some (steps_are_held old last new time plays steps none)

-- Plays keep the top and the run before.
record SameSenders (old new : State) : Type 0 where
  top : new.top ≡ old.top
  previous : new.previous ≡ old.previous

played_senders : (old : State) (seq ssrc : ℕ) (plays : List Play) (new : State) → HavePlayed old seq ssrc plays new → SameSenders old new
played_senders old seq ssrc [] new played =
    record { top = ap (λ (s : State). s.top) played; previous = ap (λ (s : State). s.previous) played }
played_senders old seq ssrc (play ∷ plays) new played =
    let rest = played_senders played.1.0 seq ssrc plays new played.1.2 in
    record {
      top = rest.top ∙ ap (λ (s : State). s.top) played.1.1.rest;
      previous = rest.previous ∙ ap (λ (s : State). s.previous) played.1.1.rest;
    }

steps_senders : (old : State) (plays : List Play) (new : State) → AreFlushSteps old plays new → SameSenders old new
steps_senders old [] new steps = record { top = ap (λ (s : State). s.top) steps; previous = ap (λ (s : State). s.previous) steps }
steps_senders old (play ∷ plays) new steps =
    let rest = steps_senders steps.0 plays new steps.2 in
    record {
      top = rest.top ∙ ap (λ (s : State). s.top) steps.1.plays.rest;
      previous = rest.previous ∙ ap (λ (s : State). s.previous) steps.1.plays.rest;
    }

-- What follows of a desk follows of it after a call that changed nothing else.
closure_counted : (desk : State) (position : ℕ) → InClosure (counted desk) position → InClosure desk position
closure_counted desk position (given some) = given some
closure_counted desk position (derived equation listed slot ahead others) =
    derived equation listed slot ahead (λ q c n. closure_counted desk q (others q c n))

-- A call that changes nothing else leaves nothing more.
pub no_more_counted : (desk : State) → ¬ HasMore desk → ¬ HasMore (counted desk)
no_more_counted desk none more = none (more.0, closure_counted desk more.0 more.1, more.2)

both_fresh : (old new : State) (ssrc : ℕ) → SameSenders old new → IsFresh old ssrc ↔ IsFresh new ssrc
both_fresh old new ssrc same = (
  same_fresh old new ssrc same.top same.previous,
  same_fresh new old ssrc (sym same.top) (sym same.previous),
)

pub flush_ends_before : FlushEndsBefore
flush_ends_before old empty new seq ssrc plays fresh steps none =
    by_flush empty fresh (steps_are_flush old empty plays steps none.0) none.1

pub due_end_before : DueEndBefore
due_end_before old new seq ssrc plays stale played none = by_due stale (played_are_due old seq ssrc plays new played none)

pub ready_after_plays : ReadyAfterPlays
ready_after_plays old new seq ssrc plays (by_flush empty fresh flush counts) =
    let steps = flush_is_steps old empty plays flush in
    let same = steps_senders old plays empty steps.0 in
    let both : IsFresh old ssrc ↔ IsFresh new ssrc = both_fresh old new ssrc
    (record {
      top = ap (λ (s : State). s.top) counts ∙ same.top;
      previous = ap (λ (s : State). s.previous) counts ∙ same.previous;
    }) in (
      λ due. due_is_stale new ssrc seq due (both.0 fresh),
      λ fresh'. subst (λ (s : State). ¬ HasMore s) (sym counts) (no_more_counted empty steps.1),
      both,
    )
ready_after_plays old new seq ssrc plays (by_due stale due) =
    let played = due_are_played old seq ssrc plays new due in
    let both : IsFresh old ssrc ↔ IsFresh new ssrc = both_fresh old new ssrc (played_senders old seq ssrc plays new played.0) in
    (played.1, λ fresh. absurd (stale (both.1 fresh)), both)

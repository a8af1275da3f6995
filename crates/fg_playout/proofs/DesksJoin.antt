-- The desks of plays that are made one after another join, and are those of all plays where nothing more is to be done.
use Rattle.std.proofs.Common.{◌≡◌, ◌++◌, ℕ, List, [], ◌∷◌, Option, None, refl, sym, ap, subst, ◌∙◌, append_assoc, append-nil}
use Rattle.fg_playout.specs.declared.reply.Reply.{Reply}
use Rattle.fg_playout.specs.State.{State}
use Rattle.fg_playout.specs.Admission.{IsDue}
use Rattle.fg_playout.specs.Play.{Play, HasMore}
use Rattle.fg_playout.specs.Held.{at_time, IsHeldStep}
use Rattle.fg_playout.specs.Run.{AreHeldPlays, unlimited, limited, by_flush, by_due, TakesAll}
use Rattle.fg_playout.specs.Laws.{HavePlayed, AreFlushSteps, AreHeldSteps}
use Rattle.fg_playout.specs.PlayedOn.{PlayOn, steps_held_on, taken_on, all_taken_on}
use Rattle.fg_playout.specs.DesksJoin.{have_played_on, flush_steps_on, held_steps_on, DueDesksJoin, FlushDesksJoin, HeldDesksJoin, TakenDesksJoin, OneTakenDesks, DueDesksEnd, FlushDesksEnd, HeldDesksEnd, NoHeldDesks, FlushDesksEndBefore, DueDesksEndBefore, RunDesksEnd}

abbrev one_on : State → Play → List PlayOn → List PlayOn
one_on desk play others = record { desk = desk; play = play } ∷ others

pub due_desks_join : DueDesksJoin
due_desks_join old between new seq ssrc [] after one other =
    let P : State → Type 0 =
    λ s. (both : HavePlayed s seq ssrc after new) × (have_played_on s seq ssrc after new both ≡ have_played_on between seq ssrc after new other) in
    subst P one (other, refl)
due_desks_join old between new seq ssrc (play ∷ before) after one other =
    let rest = due_desks_join one.1.0 between new seq ssrc before after one.1.2 other in
    ((one.0, (one.1.0, one.1.1, rest.0)), ap (one_on old play) rest.1)

pub flush_desks_join : FlushDesksJoin
flush_desks_join old between new [] after one other =
    let P : State → Type 0 =
    λ s. (both : AreFlushSteps s after new) × (flush_steps_on s after new both ≡ flush_steps_on between after new other) in
    subst P one (other, refl)
flush_desks_join old between new (play ∷ before) after one other =
    let rest = flush_desks_join one.0 between new before after one.2 other in
    ((one.0, one.1, rest.0), ap (one_on old play) rest.1)

pub held_desks_join : HeldDesksJoin
held_desks_join old between new time [] after one other =
    let P : State → Type 0 =
    λ s. (both : AreHeldSteps s time after new) × (held_steps_on s time after new both ≡ held_steps_on between time after new other) in
    subst P one (other, refl)
held_desks_join old between new time (play ∷ before) after one other =
    let rest = held_desks_join one.0 between new time before after one.2 other in
    ((one.0, one.1, rest.0), ap (one_on (at_time old time) play) rest.1)

pub taken_desks_join : TakenDesksJoin
taken_desks_join old between new [] later before after first second one other =
    let P : List Play → List (Option Reply) → State → Type 0 =
    λ ps rs s. (takes : TakesAll s later after second new)
    → (both : TakesAll old later (ps ++ after) (rs ++ second) new)
    × (all_taken_on old later (ps ++ after) (rs ++ second) new both ≡ all_taken_on s later after second new takes) in
    let none : P [] [] old = λ takes. (takes, refl) in
    subst (λ (s : State). P before first s) (sym one.2)
    (subst (λ (rs : List (Option Reply)). P before rs old) (sym one.1) (subst (λ (ps : List Play). P ps [] old) (sym one.0) none)) other
taken_desks_join old between new (arrival ∷ earlier) later before after [] second one other = absurd one
taken_desks_join old between new (arrival ∷ earlier) later before after (reply ∷ first) second one other =
    let rest = taken_desks_join one.2 between new earlier later one.1 after first second one.5 other in
    let here : List PlayOn = taken_on old arrival one.0 reply one.2 one.4 in (
      (
        one.0,
        one.1 ++ after,
        one.2,
        ap (λ (ps : List Play). ps ++ after) one.3 ∙ append_assoc one.0 one.1 after,
        one.4,
        rest.0,
      ),
      ap (λ (made : List PlayOn). here ++ made) rest.1
          ∙ sym (append_assoc here (all_taken_on one.2 earlier one.1 first between one.5) (all_taken_on between later after second new other)),
    )

pub one_taken_desks : OneTakenDesks
one_taken_desks old new arrival plays reply takes = (
  (plays, [], new, sym (append-nil plays), takes, (refl, refl, refl)),
  append-nil (taken_on old arrival plays reply new takes),
)

pub due_desks_end : DueDesksEnd
due_desks_end old new seq ssrc [] played none = ((subst (λ (s : State). ¬ IsDue s seq ssrc) played none, played), refl)
due_desks_end old new seq ssrc (play ∷ plays) played none =
    let rest = due_desks_end played.1.0 new seq ssrc plays played.1.2 none in
    ((played.0, (played.1.0, played.1.1, rest.0)), ap (one_on old play) rest.1)

pub flush_desks_end : FlushDesksEnd
flush_desks_end old new [] steps none = ((subst (λ (s : State). ¬ HasMore s) steps none, steps), refl)
flush_desks_end old new (play ∷ plays) steps none =
    let rest = flush_desks_end steps.0 new plays steps.2 none in
    ((steps.0, steps.1, rest.0), ap (one_on old play) rest.1)

steps_desks_end :
    (old last new : State) (time : ℕ) (plays : List Play) (steps : AreHeldSteps old time plays last) → IsHeldStep last time None new
    → (are : AreHeldPlays old time plays new) × (steps_held_on old time plays new are ≡ held_steps_on old time plays last steps)
steps_desks_end old last new time [] steps none = (subst (λ (s : State). IsHeldStep s time None new) steps none, refl)
steps_desks_end old last new time (play ∷ plays) steps none =
    let rest = steps_desks_end steps.0 last new time plays steps.2 none in
    ((steps.0, steps.1, rest.0), ap (one_on (at_time old time) play) rest.1)

pub held_desks_end : HeldDesksEnd
held_desks_end old last new time plays some steps none =
    let are = steps_desks_end old last new time plays steps none in (limited some are.0, are.1)

pub no_held_desks : NoHeldDesks
no_held_desks old time none = (unlimited none refl refl, refl)

pub flush_desks_end_before : FlushDesksEndBefore
flush_desks_end_before old empty new seq ssrc plays fresh steps none =
    let are = flush_desks_end old empty plays steps none.0 in (by_flush empty fresh are.0 none.1, are.1)

pub due_desks_end_before : DueDesksEndBefore
due_desks_end_before old new seq ssrc plays stale played none =
    let are = due_desks_end old new seq ssrc plays played none in (by_due stale are.0, are.1)

pub run_desks_end : RunDesksEnd
run_desks_end playout arrivals taken flushed replies filled empty takes flush = (
  record {
    taken = taken;
    flushed = flushed;
    filled = filled;
    empty = empty;
    takes = takes;
    flush = flush;
    plays_are = refl;
  },
  refl,
)

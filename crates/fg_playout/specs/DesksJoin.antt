-- The desks of plays while more of them are to come: how they join, where they are all, and how they come in order in a run.
-- This project's own.
use Rattle.std.specs.Prelude.{◌≡◌, ◌≢◌, ◌++◌, ℕ, List, [], ◌∷◌, Option, None}
use Rattle.std.specs.List.{All}
use mathlib.Core.Logic.{inl, inr}
use Rattle.fg_shape.specs.Playout.{Playout}
use Rattle.fg_playout.specs.declared.reply.Reply.{Reply}
use Rattle.fg_playout.specs.State.{State, opening}
use Rattle.fg_playout.specs.Admission.{IsDue, IsFresh}
use Rattle.fg_playout.specs.Play.{Play, HasMore, Flushes}
use Rattle.fg_playout.specs.Held.{at_time, IsHeldStep}
use Rattle.fg_playout.specs.Run.{Arrival, carries, protects, refused, time_of, ArePlaysHeld, ArePlaysDue, ArePlaysBefore, Takes, TakesAll, IsFlush, IsRun}
use Rattle.fg_playout.specs.Laws.{HavePlayed, AreFlushSteps, AreHeldSteps, HavePlayedBefore, HavePlayedThen, HavePlayedFor, still_held, then_played, IsRead}
use Rattle.fg_playout.specs.PlayedOn.{PlayOn, due_on, flushed_on, held_on, before_on, taken_on, all_taken_on, played_on}

-- Of plays that are due before a datagram, so far, each is made on the desk that the one before it leaves.
abbrev pub have_played_on :
    (old : State) (seq ssrc : ℕ) (plays : List Play) (new : State) → HavePlayed old seq ssrc plays new → List PlayOn
have_played_on old seq ssrc [] new played = []
have_played_on old seq ssrc (play ∷ plays) new played =
    record { desk = old; play = play } ∷ have_played_on played.1.0 seq ssrc plays new played.1.2

-- So is each of a flush's steps so far,
abbrev pub flush_steps_on :
    (old : State) (plays : List Play) (new : State) → AreFlushSteps old plays new → List PlayOn
flush_steps_on old [] new steps = []
flush_steps_on old (play ∷ plays) new steps =
    record { desk = old; play = play } ∷ flush_steps_on steps.0 plays new steps.2

-- and each of the held steps at a time so far, once its desk is told the time.
abbrev pub held_steps_on :
    (old : State) (time : ℕ) (plays : List Play) (new : State) → AreHeldSteps old time plays new → List PlayOn
held_steps_on old time [] new steps = []
held_steps_on old time (play ∷ plays) new steps =
    record { desk = at_time old time; play = play } ∷ held_steps_on steps.0 time plays new steps.2

-- What is played before a media datagram, so far: where its SSRC is fresh, steps of a flush.
abbrev pub played_before_on :
    (old : State) (seq ssrc : ℕ) (plays : List Play) (new : State) → HavePlayedBefore old seq ssrc plays new → List PlayOn
played_before_on old seq ssrc plays new (inl fresh) = flush_steps_on old plays new fresh.1
played_before_on old seq ssrc plays new (inr stale) = have_played_on old seq ssrc plays new stale.1

-- What an arrival has played so far, once no word waits for too long: nothing, but for a media datagram.
abbrev pub played_then_on :
    (old : State) (arrival : Arrival) (plays : List Play) (new : State) → HavePlayedThen old arrival plays new → List PlayOn
played_then_on old (carries time seq ssrc word) plays new played = played_before_on old seq ssrc plays new played
played_then_on old (protects time stream parity) plays new played = []
played_then_on old (refused time stream) plays new played = []

-- What an arrival has played so far: held plays, or all of them and some of what comes then.
abbrev pub played_for_on :
    (old : State) (arrival : Arrival) (plays : List Play) (new : State) → HavePlayedFor old arrival plays new → List PlayOn
played_for_on old arrival plays new (still_held some steps) = held_steps_on old (time_of arrival) plays new steps
played_for_on old arrival plays new (then_played held after ready holds are played) =
    held_on old (time_of arrival) held ready holds ++ played_then_on ready arrival after new played

-- Plays that are made one after another are made on the desks of the first ones, and then on those of the others.

abbrev pub DueDesksJoin : Type 0
DueDesksJoin =
    (old between new : State) (seq ssrc : ℕ) (before after : List Play)
    (one : HavePlayed old seq ssrc before between) (other : HavePlayed between seq ssrc after new)
    → (both : HavePlayed old seq ssrc (before ++ after) new)
    × (have_played_on old seq ssrc (before ++ after) new both
    ≡ have_played_on old seq ssrc before between one ++ have_played_on between seq ssrc after new other)

abbrev pub FlushDesksJoin : Type 0
FlushDesksJoin =
    (old between new : State) (before after : List Play)
    (one : AreFlushSteps old before between) (other : AreFlushSteps between after new)
    → (both : AreFlushSteps old (before ++ after) new)
    × (flush_steps_on old (before ++ after) new both
    ≡ flush_steps_on old before between one ++ flush_steps_on between after new other)

abbrev pub HeldDesksJoin : Type 0
HeldDesksJoin =
    (old between new : State) (time : ℕ) (before after : List Play)
    (one : AreHeldSteps old time before between) (other : AreHeldSteps between time after new)
    → (both : AreHeldSteps old time (before ++ after) new)
    × (held_steps_on old time (before ++ after) new both
    ≡ held_steps_on old time before between one ++ held_steps_on between time after new other)

-- So are the plays of datagrams that are taken one after another.
abbrev pub TakenDesksJoin : Type 0
TakenDesksJoin =
    (old between new : State) (earlier later : List Arrival) (before after : List Play)
    (first second : List (Option Reply))
    (one : TakesAll old earlier before first between) (other : TakesAll between later after second new)
    → (both : TakesAll old (earlier ++ later) (before ++ after) (first ++ second) new)
    × (all_taken_on old (earlier ++ later) (before ++ after) (first ++ second) new both
    ≡ all_taken_on old earlier before first between one ++ all_taken_on between later after second new other)

-- One datagram is a list of one.
abbrev pub OneTakenDesks : Type 0
OneTakenDesks =
    (old new : State) (arrival : Arrival) (plays : List Play) (reply : Option Reply)
    (takes : Takes old arrival plays reply new)
    → (all : TakesAll old (arrival ∷ []) plays (reply ∷ []) new)
    × (all_taken_on old (arrival ∷ []) plays (reply ∷ []) new all ≡ taken_on old arrival plays reply new takes)

-- Where no play is due any more, the desks are those of all plays that are due.
abbrev pub DueDesksEnd : Type 0
DueDesksEnd =
    (old new : State) (seq ssrc : ℕ) (plays : List Play) (played : HavePlayed old seq ssrc plays new)
    → (¬ IsDue new seq ssrc)
    → (are : ArePlaysDue old seq ssrc plays new)
    × (due_on old seq ssrc plays new are ≡ have_played_on old seq ssrc plays new played)

-- Where nothing that follows is left to be shown, they are those of the flush.
abbrev pub FlushDesksEnd : Type 0
FlushDesksEnd =
    (old new : State) (plays : List Play) (steps : AreFlushSteps old plays new) → (¬ HasMore new)
    → (are : IsFlush old plays new) × (flushed_on old plays new are ≡ flush_steps_on old plays new steps)

-- Where a held step finds nothing, they are those of all plays that are held.
abbrev pub HeldDesksEnd : Type 0
HeldDesksEnd =
    (old last new : State) (time : ℕ) (plays : List Play) → old.playout.hold ≢ 0
    → (steps : AreHeldSteps old time plays last) → IsHeldStep last time None new
    → (are : ArePlaysHeld old time plays new)
    × (held_on old time plays new are ≡ held_steps_on old time plays last steps)

-- Without a limit to how long a word waits there are none.
abbrev pub NoHeldDesks : Type 0
NoHeldDesks =
    (old : State) (time : ℕ) → old.playout.hold ≡ 0
    → (are : ArePlaysHeld old time [] old) × (held_on old time [] old are ≡ [])

-- Before a media datagram they are those of all that is played where, the SSRC being fresh, a flush step then finds nothing
-- left,
abbrev pub FlushDesksEndBefore : Type 0
FlushDesksEndBefore =
    (old empty new : State) (seq ssrc : ℕ) (plays : List Play) → IsFresh old ssrc
    → (steps : AreFlushSteps old plays empty) → Flushes empty None new
    → (are : ArePlaysBefore old seq ssrc plays new)
    × (before_on old seq ssrc plays new are ≡ flush_steps_on old plays empty steps)

-- and where, else, no play is due any more.
abbrev pub DueDesksEndBefore : Type 0
DueDesksEndBefore =
    (old new : State) (seq ssrc : ℕ) (plays : List Play) → (¬ IsFresh old ssrc)
    → (played : HavePlayed old seq ssrc plays new) → (¬ IsDue new seq ssrc)
    → (are : ArePlaysBefore old seq ssrc plays new)
    × (before_on old seq ssrc plays new are ≡ have_played_on old seq ssrc plays new played)

-- Once all datagrams are taken and the desk is flushed, they are those of a run.
abbrev pub RunDesksEnd : Type 0
RunDesksEnd =
    (playout : Playout) (arrivals : List Arrival) (taken flushed : List Play) (replies : List (Option Reply))
    (filled empty : State)
    (takes : TakesAll (opening playout) arrivals taken replies filled) (flush : IsFlush filled flushed empty)
    → (run : IsRun playout arrivals (taken ++ flushed) replies)
    × (played_on playout arrivals (taken ++ flushed) replies run
    ≡ all_taken_on (opening playout) arrivals taken replies filled takes ++ flushed_on filled flushed empty flush)

-- The desks of a run's first datagrams come first in it.
abbrev pub TakenDesksComeFirst : Type 0
TakenDesksComeFirst =
    (playout : Playout) (earlier later : List Arrival) (before plays : List Play) (first replies : List (Option Reply))
    (taken : State)
    → All IsRead earlier → (one : TakesAll (opening playout) earlier before first taken)
    → (run : IsRun playout (earlier ++ later) plays replies)
    → (after : List PlayOn)
    × (played_on playout (earlier ++ later) plays replies run
    ≡ all_taken_on (opening playout) earlier before first taken one ++ after)

-- Then come those of what the next datagram has played, also where it is still being taken: in what a new desk takes,
abbrev pub DesksBeforeComeNext : Type 0
DesksBeforeComeNext =
    (playout : Playout) (next : Arrival) (earlier later : List Arrival) (before due plays : List Play)
    (first replies : List (Option Reply)) (taken now new : State)
    → All IsRead earlier → (one : TakesAll (opening playout) earlier before first taken)
    → (played : HavePlayedFor taken next due now)
    → (all : TakesAll (opening playout) (earlier ++ next ∷ later) plays replies new)
    → (after : List PlayOn)
    × (all_taken_on (opening playout) (earlier ++ next ∷ later) plays replies new all
    ≡ all_taken_on (opening playout) earlier before first taken one ++ (played_for_on taken next due now played ++ after))

-- and in a run.
abbrev pub DesksBeforeComeNextInRuns : Type 0
DesksBeforeComeNextInRuns =
    (playout : Playout) (next : Arrival) (earlier later : List Arrival) (before due plays : List Play)
    (first replies : List (Option Reply)) (taken now : State)
    → All IsRead earlier → (one : TakesAll (opening playout) earlier before first taken)
    → (played : HavePlayedFor taken next due now)
    → (run : IsRun playout (earlier ++ next ∷ later) plays replies)
    → (after : List PlayOn)
    × (played_on playout (earlier ++ next ∷ later) plays replies run
    ≡ all_taken_on (opening playout) earlier before first taken one ++ (played_for_on taken next due now played ++ after))

-- After the desks of the last datagram come those of the flush's steps.
abbrev pub FlushDesksComeNext : Type 0
FlushDesksComeNext =
    (playout : Playout) (arrivals : List Arrival) (before flushed plays : List Play) (first replies : List (Option Reply))
    (taken now : State)
    → All IsRead arrivals → (one : TakesAll (opening playout) arrivals before first taken)
    → (steps : AreFlushSteps taken flushed now) → (run : IsRun playout arrivals plays replies)
    → (after : List PlayOn)
    × (played_on playout arrivals plays replies run
    ≡ all_taken_on (opening playout) arrivals before first taken one ++ (flush_steps_on taken flushed now steps ++ after))

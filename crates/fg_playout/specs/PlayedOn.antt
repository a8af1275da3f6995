-- On which desk each play of a flow's run is made. This project's own.
use Rattle.std.specs.Prelude.{◌≡◌, ◌++◌, ℕ, List, [], ◌∷◌, map, Option, Some, None}
use Rattle.std.specs.List.{All}
use Rattle.fg_shape.specs.Playout.{Playout}
use Rattle.fg_playout.specs.declared.reply.Reply.{Reply}
use Rattle.fg_playout.specs.State.{State, opening}
use Rattle.fg_playout.specs.Play.{Play, IsPlay}
use Rattle.fg_playout.specs.Held.{at_time}
use Rattle.fg_playout.specs.Run.{Arrival, carries, protects, refused, time_of, AreHeldPlays, ArePlaysHeld, unlimited, limited, ArePlaysDue, ArePlaysBefore, by_flush, by_due, TakesThen, Takes, TakesAll, IsFlush, IsRun}
use Rattle.fg_playout.specs.Laws.{IsRead}

-- A play, and the desk that it is made on.
pub record PlayOn : Type 0 where
  pub desk : State
  pub play : Play

-- Of plays that are due before a datagram, each is made on the desk that the one before it leaves.
abbrev pub due_on :
    (old : State) (seq ssrc : ℕ) (plays : List Play) (new : State) → ArePlaysDue old seq ssrc plays new → List PlayOn
due_on old seq ssrc [] new due = []
due_on old seq ssrc (play ∷ plays) new due =
    record { desk = old; play = play } ∷ due_on due.1.0 seq ssrc plays new due.1.2

-- Of the steps of a flush, too, each is made on the desk that the one before it leaves.
abbrev pub flushed_on : (old : State) (plays : List Play) (new : State) → IsFlush old plays new → List PlayOn
flushed_on old [] new flush = []
flushed_on old (play ∷ plays) new flush =
    record { desk = old; play = play } ∷ flushed_on flush.0 plays new flush.2

-- A held step's play is made on the desk once it is told the time.
abbrev pub steps_held_on :
    (old : State) (time : ℕ) (plays : List Play) (new : State) → AreHeldPlays old time plays new → List PlayOn
steps_held_on old time [] new steps = []
steps_held_on old time (play ∷ plays) new steps =
    record { desk = at_time old time; play = play } ∷ steps_held_on steps.0 time plays new steps.2

abbrev pub held_on :
    (old : State) (time : ℕ) (plays : List Play) (new : State) → ArePlaysHeld old time plays new → List PlayOn
held_on old time plays new (unlimited none no_plays same) = []
held_on old time plays new (limited some steps) = steps_held_on old time plays new steps

-- What is played before a media datagram.
abbrev pub before_on :
    (old : State) (seq ssrc : ℕ) (plays : List Play) (new : State) → ArePlaysBefore old seq ssrc plays new → List PlayOn
before_on old seq ssrc plays new (by_flush empty fresh flush counts) = flushed_on old plays empty flush
before_on old seq ssrc plays new (by_due stale due) = due_on old seq ssrc plays new due

-- What one datagram has played where no word waits for too long: nothing, but for a media datagram.
abbrev pub taken_then_on :
    (old : State) (arrival : Arrival) (plays : List Play) (reply : Option Reply) (new : State)
    → TakesThen old arrival plays reply new → List PlayOn
taken_then_on old (carries time seq ssrc word) plays None new takes = []
taken_then_on old (carries time seq ssrc word) plays (Some reply) new takes = before_on old seq ssrc plays takes.0 takes.1
taken_then_on old (protects time stream parity) plays reply new takes = []
taken_then_on old (refused time stream) plays reply new takes = []

-- What one datagram has played.
abbrev pub taken_on :
    (old : State) (arrival : Arrival) (plays : List Play) (reply : Option Reply) (new : State)
    → Takes old arrival plays reply new → List PlayOn
taken_on old arrival plays reply new takes =
    held_on old (time_of arrival) takes.held takes.ready takes.holds
    ++ taken_then_on takes.ready arrival takes.after reply new takes.takes

-- What a list of datagrams has played.
abbrev pub all_taken_on :
    (old : State) (arrivals : List Arrival) (plays : List Play) (replies : List (Option Reply)) (new : State)
    → TakesAll old arrivals plays replies new → List PlayOn
all_taken_on old [] plays replies new takes = []
all_taken_on old (arrival ∷ arrivals) plays [] new takes = []
all_taken_on old (arrival ∷ arrivals) plays (reply ∷ replies) new takes =
    taken_on old arrival takes.0 reply takes.2 takes.4 ++ all_taken_on takes.2 arrivals takes.1 replies new takes.5

-- A run's plays, in order, each with the desk that it is made on.
abbrev pub played_on :
    (playout : Playout) (arrivals : List Arrival) (plays : List Play) (replies : List (Option Reply))
    → IsRun playout arrivals plays replies → List PlayOn
played_on playout arrivals plays replies run =
    all_taken_on (opening playout) arrivals run.taken replies run.filled run.takes
    ++ flushed_on run.filled run.flushed run.empty run.flush

-- They are the run's plays.
abbrev pub PlaysAreTheRuns : Type 0
PlaysAreTheRuns =
    (playout : Playout) (arrivals : List Arrival) (plays : List Play) (replies : List (Option Reply))
    (run : IsRun playout arrivals plays replies)
    → map (λ made. made.play) (played_on playout arrivals plays replies run) ≡ plays

-- And each is a play of its desk.
abbrev pub DesksMakeThePlays : Type 0
DesksMakeThePlays =
    (playout : Playout) (arrivals : List Arrival) (plays : List Play) (replies : List (Option Reply))
    (run : IsRun playout arrivals plays replies)
    → All (λ made. (count : ℕ) × (next : State) × IsPlay count made.desk made.play next)
    (played_on playout arrivals plays replies run)

-- A flow has one such list: a run of it makes each play on the same desk as another run does.
abbrev pub OneListOfDesks : Type 0
OneListOfDesks =
    (playout : Playout) (arrivals : List Arrival) (plays plays' : List Play) (replies replies' : List (Option Reply))
    (one : IsRun playout arrivals plays replies) (other : IsRun playout arrivals plays' replies') → All IsRead arrivals
    → played_on playout arrivals plays replies one ≡ played_on playout arrivals plays' replies' other

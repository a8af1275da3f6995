-- A flow's run over datagrams that are read. This project's own. It knows no worker, and no words found before a play.
use Rattle.std.specs.Prelude.{◌≡◌, ◌≢◌, ◌==◌, ◌+◌, ◌++◌, ◌&&◌, ℕ, Bool, List, [], ◌∷◌, Option, Some, None, if◌then◌else◌}
use Rattle.fg_words.specs.declared.Word.{Word}
use Rattle.fg_shape.specs.Playout.{Playout}
use Rattle.fg_playout.specs.declared.reply.Reply.{Reply}
use Rattle.fg_playout.specs.declared.reply.Reply.TheVariants.{Admitted, Duplicate, Conflict, Late, NotStarted, BeforeStart, Ahead, Crowded, Foreign}
use Rattle.fg_shape.specs.declared.kind.Kind.{Kind}
use Rattle.fg_shape.specs.declared.kind.Kind.TheVariants.{Media, Column, Row}
use Rattle.fg_playout.specs.State.{State, opening}
use Rattle.fg_playout.specs.Admission.{Parity, AdmitsMedia, AdmitsParity, IsDue, IsFresh, counted}
use Rattle.fg_playout.specs.Play.{Play, IsPlay, IsFlushStep, HasMore}
use Rattle.fg_playout.specs.Held.{IsHeldStep}

-- A datagram as it is read, and its time in microseconds: a media datagram's sequence number, SSRC and word; a parity datagram of a
-- stream; or one that its reader refused.
pub data Arrival : Type 0 where
  carries : (time seq ssrc : ℕ) → Word → Arrival
  protects : (time : ℕ) → Kind → Parity → Arrival
  refused : (time : ℕ) → Kind → Arrival

-- The time at which an arrival came, and the stream that it came by.
abbrev pub time_of : Arrival → ℕ
time_of (carries time seq ssrc word) = time
time_of (protects time stream parity) = time
time_of (refused time stream) = time

abbrev pub came_by : Arrival → Kind
came_by (carries time seq ssrc word) = Media
came_by (protects time stream parity) = stream
came_by (refused time stream) = stream

-- Held plays are made at a time until none is defined. The step that finds none is a call, too.
abbrev pub AreHeldPlays : State → ℕ → List Play → State → Type 0
AreHeldPlays old time [] new = IsHeldStep old time None new
AreHeldPlays old time (play ∷ plays) new = (next : State) × IsHeldStep old time (Some play) next × AreHeldPlays next time plays new

-- What is played before a datagram of this time since words have waited for too long. Without a limit to that it is nothing.
pub data ArePlaysHeld (old : State) (time : ℕ) (plays : List Play) (new : State) : Type 0 where
  unlimited : old.playout.hold ≡ 0 → plays ≡ [] → new ≡ old → ArePlaysHeld old time plays new
  limited : old.playout.hold ≢ 0 → AreHeldPlays old time plays new → ArePlaysHeld old time plays new

-- Windows are played while one is due before a media datagram of this sequence number and SSRC.
abbrev pub ArePlaysDue : State → ℕ → ℕ → List Play → State → Type 0
ArePlaysDue old seq ssrc [] new = (¬ IsDue old seq ssrc) × (new ≡ old)
ArePlaysDue old seq ssrc (play ∷ plays) new =
    IsDue old seq ssrc × ((next : State) × IsPlay old.playout.window old play next × ArePlaysDue next seq ssrc plays new)

-- A flush: flush steps until none is defined.
abbrev pub IsFlush : State → List Play → State → Type 0
IsFlush old [] new = (¬ HasMore old) × (new ≡ old)
IsFlush old (play ∷ plays) new = (next : State) × IsFlushStep old play next × IsFlush next plays new

-- What is played before a media datagram is admitted. Where its SSRC is fresh the desk is flushed, so that a run can begin: the step
-- that finds nothing left is a call, too. Else windows are played while one is due.
pub data ArePlaysBefore (old : State) (seq ssrc : ℕ) (plays : List Play) (new : State) : Type 0 where
  by_flush :
      (empty : State) → IsFresh old ssrc → IsFlush old plays empty → new ≡ counted empty
      → ArePlaysBefore old seq ssrc plays new
  by_due : ¬ IsFresh old ssrc → ArePlaysDue old seq ssrc plays new → ArePlaysBefore old seq ssrc plays new

-- What one datagram does where no word waits for too long any more: the plays before it, and the reply to it. A refused one does
-- nothing and gets none. A parity datagram plays nothing.
abbrev pub TakesThen : State → Arrival → List Play → Option Reply → State → Type 0
TakesThen old (carries time seq ssrc word) plays None new = ⊥
TakesThen old (carries time seq ssrc word) plays (Some reply) new =
    (ready : State) × ArePlaysBefore old seq ssrc plays ready × AdmitsMedia ready seq ssrc word reply new
TakesThen old (protects time stream parity) plays None new = ⊥
TakesThen old (protects time stream parity) plays (Some reply) new = (plays ≡ []) × AdmitsParity old parity reply new
TakesThen old (refused time stream) plays None new = (plays ≡ []) × (new ≡ old)
TakesThen old (refused time stream) plays (Some reply) new = ⊥

-- What one datagram does: first what has waited for too long by its time is played, whatever the datagram is.
pub record Takes (old : State) (arrival : Arrival) (plays : List Play) (reply : Option Reply) (new : State) : Type 0 where
  pub held : List Play
  pub after : List Play
  pub ready : State
  pub plays_are : plays ≡ held ++ after
  pub holds : ArePlaysHeld old (time_of arrival) held ready
  pub takes : TakesThen ready arrival after reply new

-- What a list of datagrams does, in its order.
abbrev pub TakesAll : State → List Arrival → List Play → List (Option Reply) → State → Type 0
TakesAll old [] plays replies new = (plays ≡ []) × (replies ≡ []) × (new ≡ old)
TakesAll old (arrival ∷ arrivals) plays [] new = ⊥
TakesAll old (arrival ∷ arrivals) plays (reply ∷ replies) new =
    (before : List Play) × (after : List Play) × (next : State) × (plays ≡ before ++ after)
    × Takes old arrival before reply next × TakesAll next arrivals after replies new

-- A flow's run: from the opening desk its datagrams are taken, and then the desk is flushed. Its results are the plays,
-- and the reply to each datagram, none where its reader refused it. Its last desk tells how many runs of a sender were begun.
pub record IsRun (playout : Playout) (arrivals : List Arrival) (plays : List Play) (replies : List (Option Reply)) : Type 0 where
  pub taken : List Play
  pub flushed : List Play
  pub filled : State
  pub empty : State
  pub takes : TakesAll (opening playout) arrivals taken replies filled
  pub flush : IsFlush filled flushed empty
  pub plays_are : plays ≡ taken ++ flushed

-- The replies of a run are counted. Streams and replies are told apart by their numbers, in the order in which they are
-- declared; no reply comes last.
abbrev pub kind_number : Kind → ℕ
kind_number Media = 0
kind_number Column = 1
kind_number Row = 2

abbrev pub reply_number : Option Reply → ℕ
reply_number (Some Admitted) = 0
reply_number (Some Duplicate) = 1
reply_number (Some Conflict) = 2
reply_number (Some Late) = 3
reply_number (Some NotStarted) = 4
reply_number (Some BeforeStart) = 5
reply_number (Some Ahead) = 6
reply_number (Some Crowded) = 7
reply_number (Some Foreign) = 8
reply_number None = 9

-- An arrival that was answered so came by this stream, and got this reply.
abbrev pub is_counted : Kind → Option Reply → Arrival → Option Reply → Bool
is_counted stream reply arrival answer =
    (kind_number (came_by arrival) == kind_number stream) && (reply_number answer == reply_number reply)

-- How many arrivals came by this stream and got this reply. With no reply: how many their reader refused.
abbrev pub count_of : Kind → Option Reply → List Arrival → List (Option Reply) → ℕ
count_of stream reply [] answers = 0
count_of stream reply (arrival ∷ arrivals) [] = 0
count_of stream reply (arrival ∷ arrivals) (answer ∷ answers) =
    (if is_counted stream reply arrival answer then 1 else 0) + count_of stream reply arrivals answers

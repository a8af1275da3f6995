-- Laws that show the definitions of a desk to be right.
use Rattle.std.specs.Prelude.{◌≡◌, ◌⊎◌, ◌==◌, if◌then◌else◌, ◌≢◌, ◌+◌, ◌-◌, ◌<◌, ◌≤◌, ◌^◌, ◌↔◌, ◌++◌, ℕ, ⊤, IsTrue, nat_le, List, [], ◌∷◌, length, filter, Option, Some, None}
use Rattle.std.specs.List.{All, Contains}
use Rattle.std.specs.FinMap.{get}
use Rattle.fg_words.specs.declared.Word.{Word}
use Rattle.fg_words.specs.Word.{IsMedia}
use Rattle.fg_shape.specs.Shape.{IsShape}
use Rattle.fg_shape.specs.Playout.{Playout}
use Rattle.fg_peel.specs.Equation.{Equation}
use Rattle.fg_peel.specs.Peeling.{Step, IsPeeling, end_of}
use Rattle.fg_peel.specs.Closure as peel
use Rattle.fg_peel.specs.Solution as peeled
use Rattle.fg_playout.specs.declared.reply.Reply.{Reply}
use Rattle.fg_playout.specs.declared.reply.Reply.TheVariants.{Admitted}
use Rattle.fg_playout.specs.declared.reply.Outcome.{Outcome}
use Rattle.fg_playout.specs.declared.reply.Outcome.TheVariants.{Repaired}
use Rattle.fg_playout.specs.State.{State, Live, known, live_equations, opening}
use Rattle.fg_playout.specs.Room.{HasRoom}
use Rattle.fg_playout.specs.Solution.{InClosure, IsSolution}
use Rattle.fg_playout.specs.Admission.{Parity, AdmitsMedia, AdmitsParity, IsDue, IsFresh, position_on, base_on, begun, with_media, equation_at, counted}
use Rattle.fg_playout.specs.Play.{Play, Shown, IsPlay, IsFlushStep, IsHighest, HasMore, Flushes}
use Rattle.fg_playout.specs.Held.{IsHeldStep}
use Rattle.fg_shape.specs.declared.kind.Kind.{Kind}
use Rattle.fg_playout.specs.Run.{Arrival, carries, protects, refused, time_of, came_by, is_counted, count_of, ArePlaysHeld, ArePlaysDue, ArePlaysBefore, TakesAll, IsFlush, IsRun}
use Rattle.fg_playout.specs.Facts.{Holds}

-- The live equations are those that stand under some serial number.
abbrev pub LiveStandUnderSerials : Type 0
LiveStandUnderSerials =
    (desk : State) (equation : Equation)
    → Contains (live_equations desk) equation
    ↔ ((serial : ℕ) × (live : Live) × (get desk.equations serial ≡ Some live) × (live.equation ≡ equation))

-- The facts hold at first, and every call keeps them.

abbrev pub OpeningHolds : Type 0
OpeningHolds =
    (playout : Playout) → 1 ≤ playout.window → playout.window ≤ 100 → playout.window ≤ playout.depth
    → Holds (opening playout)

abbrev pub MediaKeeps : Type 0
MediaKeeps =
    (old new : State) (seq ssrc : ℕ) (word : Word) (reply : Reply) → Holds old → IsMedia word → ¬ IsDue old seq ssrc
    → AdmitsMedia old seq ssrc word reply new → Holds new

abbrev pub ParityKeeps : Type 0
ParityKeeps =
    (old new : State) (parity : Parity) (reply : Reply) → Holds old → HasRoom old
    → IsShape parity.offset parity.count → AdmitsParity old parity reply new → Holds new

abbrev pub PlayKeeps : Type 0
PlayKeeps =
    (count : ℕ) (old new : State) (play : Play) → Holds old → old.top ≢ None → IsPlay count old play new → Holds new

abbrev pub FlushStepKeeps : Type 0
FlushStepKeeps = (old new : State) (play : Option Play) → Holds old → Flushes old play new → Holds new

abbrev pub HeldStepKeeps : Type 0
HeldStepKeeps = (old new : State) (time : ℕ) (play : Option Play) → Holds old → IsHeldStep old time play new → Holds new

-- Whether an SSRC is fresh can be told.
abbrev pub FreshIsDecided : Type 0
FreshIsDecided = (desk : State) (ssrc : ℕ) → IsFresh desk ssrc ⊎ (¬ IsFresh desk ssrc)

-- Where nothing more follows, no word is known at the mark or past it, and no peeling has a step.

abbrev pub NothingAheadIsKnown : Type 0
NothingAheadIsKnown =
    (desk : State) → (¬ HasMore desk) → (position : ℕ) → desk.mark ≤ position → known desk position ≡ None

abbrev pub NothingIsPeeled : Type 0
NothingIsPeeled =
    (desk : State) (steps : List Step) → Holds desk → (¬ HasMore desk)
    → IsPeeling (known desk) (live_equations desk) steps → steps ≡ []

-- A media datagram that is admitted adds its word to the known ones, at a position past what is played that had none. The live
-- equations stay, but where a run begins: there all leave the desk. A fresh SSRC comes to a desk that is flushed.
abbrev pub MediaAdds : Type 0
MediaAdds =
    (old new : State) (seq ssrc : ℕ) (word : Word) → Holds old → (IsFresh old ssrc → ¬ HasMore old)
    → AdmitsMedia old seq ssrc word Admitted new
    → (position : ℕ) × (position_on old seq ssrc ≡ Some position) × (old.mark ≤ position)
    × (known old position ≡ None)
    × ((other : ℕ) → known new other ≡ (if other == position then Some word else known old other))
    × (IsFresh old ssrc → live_equations new ≡ [])
    × ((¬ IsFresh old ssrc) → live_equations new ≡ live_equations old)

-- A fresh SSRC is admitted, and begins a run at the mark.
abbrev pub FreshBegins : Type 0
FreshBegins =
    (old new : State) (seq ssrc : ℕ) (word : Word) (reply : Reply) → IsFresh old ssrc
    → AdmitsMedia old seq ssrc word reply new
    → (reply ≡ Admitted) × (new ≡ with_media (begun old) seq ssrc old.mark word)

-- So does the first media datagram of all.
abbrev pub FirstBegins : Type 0
FirstBegins =
    (old new : State) (seq ssrc : ℕ) (word : Word) (reply : Reply) → Holds old → old.top ≡ None
    → AdmitsMedia old seq ssrc word reply new
    → (reply ≡ Admitted) × (new ≡ with_media (begun old) seq ssrc old.mark word)

-- No other media datagram does, and a play begins none.
abbrev pub OthersGoOn : Type 0
OthersGoOn =
    (old new : State) (seq ssrc : ℕ) (word : Word) (reply : Reply) → (¬ IsFresh old ssrc) → old.top ≢ None
    → AdmitsMedia old seq ssrc word reply new
    → (new.runs ≡ old.runs) × (new.origin ≡ old.origin) × (new.previous ≡ old.previous)

-- A parity datagram that is admitted adds its equation to the live ones, and nothing else.
abbrev pub ParityAdds : Type 0
ParityAdds =
    (old new : State) (parity : Parity) → Holds old → AdmitsParity old parity Admitted new
    → (position : ℕ) × (base_on old parity.base ≡ Some position)
    × ((equation : Equation)
    → Contains (live_equations new) equation
    ↔ (Contains (live_equations old) equation ⊎ (equation ≡ equation_at position parity)))
    × (known new ≡ known old)

-- On such a desk closure and solutions are those of peeling: the mark makes no difference.

abbrev pub ClosureIsPeelings : Type 0
ClosureIsPeelings =
    (desk : State) → Holds desk → (position : ℕ)
    → InClosure desk position ↔ peel.InClosure (known desk) (live_equations desk) position

abbrev pub SolutionsArePeelings : Type 0
SolutionsArePeelings =
    (desk : State) → Holds desk → (words : ℕ → Option Word)
    → IsSolution desk words ↔ peeled.IsSolution (known desk) (live_equations desk) words

-- So no step of a peeling lies before the mark.
abbrev pub StepsAreAhead : Type 0
StepsAreAhead =
    (desk : State) (steps : List Step) → Holds desk → IsPeeling (known desk) (live_equations desk) steps
    → All (λ step. desk.mark ≤ step.position) steps

-- A desk has at most one solution.
abbrev pub OneSolution : Type 0
OneSolution =
    (desk : State) → Holds desk → (one other : ℕ → Option Word) → IsSolution desk one → IsSolution desk other → one ≡ other

-- What is past the mark after a play followed before it already.
abbrev pub ClosureGainsNothing : Type 0
ClosureGainsNothing =
    (count : ℕ) (old new : State) (play : Play) → IsPlay count old play new
    → (position : ℕ) → InClosure new position → InClosure old position

-- Flush steps one after another.
abbrev pub AreFlushSteps : State → List Play → State → Type 0
AreFlushSteps old [] new = new ≡ old
AreFlushSteps old (play ∷ plays) new = (next : State) × IsFlushStep old play next × AreFlushSteps next plays new

-- A flush ends: there are no more steps than positions up to the highest that follows.
abbrev pub FlushEnds : Type 0
FlushEnds =
    (old new : State) (plays : List Play) (highest : ℕ) → 1 ≤ old.playout.window → IsHighest old highest
    → AreFlushSteps old plays new → length plays ≤ highest + 1 - old.mark

-- A flush is steps after which nothing that follows is left to be shown.
abbrev pub FlushStepsEnd : Type 0
FlushStepsEnd =
    (old new : State) (plays : List Play) → IsFlush old plays new ↔ (AreFlushSteps old plays new × (¬ HasMore new))

-- A known position ahead stays derivable: what a peeling found before a repaired play is, past the new mark, found by a
-- peeling after it, with the same words. Before the mark it finds nothing.
abbrev pub SolvedStaysPeeled : Type 0
SolvedStaysPeeled =
    (count : ℕ) (old new : State) (play : Play) (steps : List Step) → Holds old → IsPlay count old play new
    → play.outcome ≡ Repaired → IsPeeling (known old) (live_equations old) steps
    → IsPeeling (known new) (live_equations new) (filter (λ step. nat_le new.mark step.position) steps)
    × ((position : ℕ) → new.mark ≤ position
    → end_of (known new) (filter (λ step. nat_le new.mark step.position) steps) position
    ≡ end_of (known old) steps position)
    × ((position : ℕ) → position < new.mark
    → end_of (known new) (filter (λ step. nat_le new.mark step.position) steps) position ≡ known new position)

-- Later datagrams change nothing of what was shown and answered before.
abbrev pub LaterChangesNothing : Type 0
LaterChangesNothing =
    (old new : State) (earlier later : List Arrival) (plays : List Play) (replies : List (Option Reply))
    → TakesAll old (earlier ++ later) plays replies new
    → (between : State) × (before : List Play) × (after : List Play)
    × (first : List (Option Reply)) × (second : List (Option Reply))
    × TakesAll old earlier before first between × TakesAll between later after second new
    × (plays ≡ before ++ after) × (replies ≡ first ++ second)

-- And what is taken one after another is a run of both.
abbrev pub TakingsJoin : Type 0
TakingsJoin =
    (old between new : State) (earlier later : List Arrival) (before after : List Play)
    (first second : List (Option Reply))
    → TakesAll old earlier before first between → TakesAll between later after second new
    → TakesAll old (earlier ++ later) (before ++ after) (first ++ second) new

-- Plays that are due before a datagram of this sequence number and SSRC, so far.
abbrev pub HavePlayed : State → ℕ → ℕ → List Play → State → Type 0
HavePlayed old seq ssrc [] new = new ≡ old
HavePlayed old seq ssrc (play ∷ plays) new =
    IsDue old seq ssrc × ((next : State) × IsPlay old.playout.window old play next × HavePlayed next seq ssrc plays new)

abbrev pub PlaysDueJoin : Type 0
PlaysDueJoin =
    (old between new : State) (seq ssrc : ℕ) (before after : List Play)
    → HavePlayed old seq ssrc before between → HavePlayed between seq ssrc after new
    → HavePlayed old seq ssrc (before ++ after) new

-- They are all that are due where then none is.
abbrev pub PlaysDueEnd : Type 0
PlaysDueEnd =
    (old new : State) (seq ssrc : ℕ) (plays : List Play)
    → ArePlaysDue old seq ssrc plays new ↔ (HavePlayed old seq ssrc plays new × (¬ IsDue new seq ssrc))

-- What is played before a media datagram, so far: where its SSRC is fresh, steps of a flush.
abbrev pub HavePlayedBefore : State → ℕ → ℕ → List Play → State → Type 0
HavePlayedBefore old seq ssrc plays new =
    (IsFresh old ssrc × AreFlushSteps old plays new) ⊎ ((¬ IsFresh old ssrc) × HavePlayed old seq ssrc plays new)

-- It is all that is played where, the SSRC being fresh, a flush step then finds nothing left,
abbrev pub FlushEndsBefore : Type 0
FlushEndsBefore =
    (old empty new : State) (seq ssrc : ℕ) (plays : List Play) → IsFresh old ssrc → AreFlushSteps old plays empty
    → Flushes empty None new → ArePlaysBefore old seq ssrc plays new

-- and where, else, no play is due any more.
abbrev pub DueEndBefore : Type 0
DueEndBefore =
    (old new : State) (seq ssrc : ℕ) (plays : List Play) → (¬ IsFresh old ssrc) → HavePlayed old seq ssrc plays new
    → (¬ IsDue new seq ssrc) → ArePlaysBefore old seq ssrc plays new

-- Then the datagram can be admitted: no play is due, and where the SSRC is fresh nothing more follows. The plays changed nothing
-- of whose an SSRC is.
abbrev pub ReadyAfterPlays : Type 0
ReadyAfterPlays =
    (old new : State) (seq ssrc : ℕ) (plays : List Play) → ArePlaysBefore old seq ssrc plays new
    → (¬ IsDue new seq ssrc) × (IsFresh new ssrc → ¬ HasMore new) × (IsFresh old ssrc ↔ IsFresh new ssrc)

-- Held steps at a time, so far.
abbrev pub AreHeldSteps : State → ℕ → List Play → State → Type 0
AreHeldSteps old time [] new = new ≡ old
AreHeldSteps old time (play ∷ plays) new =
    (next : State) × IsHeldStep old time (Some play) next × AreHeldSteps next time plays new

abbrev pub HeldStepsJoin : Type 0
HeldStepsJoin =
    (old between new : State) (time : ℕ) (before after : List Play)
    → AreHeldSteps old time before between → AreHeldSteps between time after new → AreHeldSteps old time (before ++ after) new

-- They are all where then a held step finds nothing.
abbrev pub HeldStepsEnd : Type 0
HeldStepsEnd =
    (old last new : State) (time : ℕ) (plays : List Play) → old.playout.hold ≢ 0 → AreHeldSteps old time plays last
    → IsHeldStep last time None new → ArePlaysHeld old time plays new

-- What an arrival has played so far, once no word waits for too long. Only a media datagram plays anything then.
abbrev pub HavePlayedThen : State → Arrival → List Play → State → Type 0
HavePlayedThen old (carries time seq ssrc word) plays new = HavePlayedBefore old seq ssrc plays new
HavePlayedThen old (protects time stream parity) plays new = (plays ≡ []) × (new ≡ old)
HavePlayedThen old (refused time stream) plays new = (plays ≡ []) × (new ≡ old)

-- What an arrival has played so far: held plays, or all of them and some of what comes then.
pub data HavePlayedFor (old : State) (arrival : Arrival) (plays : List Play) (new : State) : Type 0 where
  still_held :
      old.playout.hold ≢ 0 → AreHeldSteps old (time_of arrival) plays new → HavePlayedFor old arrival plays new
  then_played :
      (held after : List Play) (ready : State) → ArePlaysHeld old (time_of arrival) held ready → plays ≡ held ++ after
      → HavePlayedThen ready arrival after new → HavePlayedFor old arrival plays new

abbrev pub FlushStepsJoin : Type 0
FlushStepsJoin =
    (old between new : State) (before after : List Play)
    → AreFlushSteps old before between → AreFlushSteps between after new → AreFlushSteps old (before ++ after) new

-- Each play begins where the one before ends.
abbrev pub AreInSuccession : ℕ → List Play → Type 0
AreInSuccession first [] = ⊤
AreInSuccession first (play ∷ plays) = (play.first ≡ first) × AreInSuccession (first + length play.shown) plays

-- So each position is shown or missing once, in order and without holes.
abbrev pub PlaysFollow : Type 0
PlaysFollow =
    (playout : Playout) (arrivals : List Arrival) (plays : List Play) (replies : List (Option Reply))
    → IsRun playout arrivals plays replies → AreInSuccession 0 plays

-- Datagrams as the readers give them: media words, and shapes that are read.
abbrev pub IsRead : Arrival → Type 0
IsRead (carries time seq ssrc word) = (seq < 2 ^ 16) × (ssrc < 2 ^ 32) × IsMedia word
IsRead (protects time stream parity) = (parity.base < 2 ^ 16) × IsShape parity.offset parity.count
IsRead (refused time stream) = ⊤

-- As long as a flow's datagrams are fewer than 2^44, the facts hold all along its run, and there is room: before each
-- datagram, between the plays before it, and after a step of a flush, or a held step, that finds nothing.
abbrev pub RunsStayWithin : Type 0
RunsStayWithin =
    (playout : Playout) (next : Arrival) (arrivals : List Arrival) (plays due : List Play) (replies : List (Option Reply))
    (taken new : State)
    → 1 ≤ playout.window → playout.window ≤ 100 → playout.window ≤ playout.depth → playout.depth ≤ 1000
    → All IsRead arrivals → length arrivals < 2 ^ 44
    → TakesAll (opening playout) arrivals plays replies taken → HavePlayedFor taken next due new
    → Holds new × HasRoom new × HasRoom (counted new)

-- And so they do between the steps of its flush.
abbrev pub FlushesStayWithin : Type 0
FlushesStayWithin =
    (playout : Playout) (arrivals : List Arrival) (plays flushed : List Play) (replies : List (Option Reply))
    (filled new : State)
    → 1 ≤ playout.window → playout.window ≤ 100 → playout.window ≤ playout.depth → playout.depth ≤ 1000
    → All IsRead arrivals → length arrivals < 2 ^ 44
    → TakesAll (opening playout) arrivals plays replies filled → AreFlushSteps filled flushed new
    → Holds new × HasRoom new

-- A flow has one run: two of the same datagrams are the same, up to the desk before the flush.
abbrev pub OneRun : Type 0
OneRun =
    (playout : Playout) (arrivals : List Arrival) (plays plays' : List Play) (replies replies' : List (Option Reply))
    → All IsRead arrivals → (one : IsRun playout arrivals plays replies) → (other : IsRun playout arrivals plays' replies')
    → (plays ≡ plays') × (replies ≡ replies') × (one.filled ≡ other.filled)

-- The same datagrams taken by a new desk give the same plays, the same replies and the same desk.
abbrev pub OneTaking : Type 0
OneTaking =
    (playout : Playout) (arrivals : List Arrival) (plays plays' : List Play) (replies replies' : List (Option Reply))
    (new new' : State)
    → All IsRead arrivals → TakesAll (opening playout) arrivals plays replies new
    → TakesAll (opening playout) arrivals plays' replies' new'
    → (plays ≡ plays') × (replies ≡ replies') × (new ≡ new')

-- A call has one outcome: the reply or the play, and the desk after it.

abbrev pub MediaIsOne : Type 0
MediaIsOne =
    (old one other : State) (seq ssrc : ℕ) (word : Word) (reply reply' : Reply)
    → AdmitsMedia old seq ssrc word reply one → AdmitsMedia old seq ssrc word reply' other
    → (reply ≡ reply') × (one ≡ other)

abbrev pub ParityIsOne : Type 0
ParityIsOne =
    (old one other : State) (parity : Parity) (reply reply' : Reply) → Holds old
    → AdmitsParity old parity reply one → AdmitsParity old parity reply' other → (reply ≡ reply') × (one ≡ other)

abbrev pub PlayIsOne : Type 0
PlayIsOne =
    (count : ℕ) (old one other : State) (play play' : Play) → Holds old
    → IsPlay count old play one → IsPlay count old play' other → (play ≡ play') × (one ≡ other)

abbrev pub FlushIsOne : Type 0
FlushIsOne =
    (old one other : State) (play play' : Option Play) → Holds old
    → Flushes old play one → Flushes old play' other → (play ≡ play') × (one ≡ other)

abbrev pub HeldStepIsOne : Type 0
HeldStepIsOne =
    (old one other : State) (time : ℕ) (play play' : Option Play) → Holds old
    → IsHeldStep old time play one → IsHeldStep old time play' other → (play ≡ play') × (one ≡ other)

-- What a play shows is one list: two lists that a call over one desk is told to show are equal, whatever else is told.

abbrev pub PlaysShowOneList : Type 0
PlaysShowOneList =
    (count : ℕ) (old one other : State) (first first' : ℕ) (shown shown' : List Shown) (outcome outcome' : Outcome)
    → Holds old
    → IsPlay count old (record { first = first; shown = shown; outcome = outcome }) one
    → IsPlay count old (record { first = first'; shown = shown'; outcome = outcome' }) other
    → shown ≡ shown'

abbrev pub FlushStepsShowOneList : Type 0
FlushStepsShowOneList =
    (old one other : State) (first first' : ℕ) (shown shown' : List Shown) (outcome outcome' : Outcome)
    → Holds old
    → Flushes old (Some (record { first = first; shown = shown; outcome = outcome })) one
    → Flushes old (Some (record { first = first'; shown = shown'; outcome = outcome' })) other
    → shown ≡ shown'

abbrev pub HeldStepsShowOneList : Type 0
HeldStepsShowOneList =
    (old one other : State) (time first first' : ℕ) (shown shown' : List Shown) (outcome outcome' : Outcome)
    → Holds old
    → IsHeldStep old time (Some (record { first = first; shown = shown; outcome = outcome })) one
    → IsHeldStep old time (Some (record { first = first'; shown = shown'; outcome = outcome' })) other
    → shown ≡ shown'

-- The plays of a run's first datagrams come first in it.
abbrev pub TakenPlaysComeFirst : Type 0
TakenPlaysComeFirst =
    (playout : Playout) (earlier later : List Arrival) (before plays : List Play) (first replies : List (Option Reply))
    (taken : State)
    → All IsRead earlier → TakesAll (opening playout) earlier before first taken
    → IsRun playout (earlier ++ later) plays replies → (after : List Play) × (plays ≡ before ++ after)

-- Then come those that the next datagram brings, also where it is still being taken.
abbrev pub PlaysBeforeComeNext : Type 0
PlaysBeforeComeNext =
    (playout : Playout) (next : Arrival) (earlier later : List Arrival) (before due plays : List Play)
    (first replies : List (Option Reply)) (taken now new : State)
    → All IsRead earlier → TakesAll (opening playout) earlier before first taken
    → HavePlayedFor taken next due now
    → TakesAll (opening playout) (earlier ++ next ∷ later) plays replies new
    → (after : List Play) × (plays ≡ before ++ (due ++ after))

-- After the last datagram come the steps of the flush.
abbrev pub FlushStepsComeNext : Type 0
FlushStepsComeNext =
    (playout : Playout) (arrivals : List Arrival) (before flushed plays : List Play) (first replies : List (Option Reply))
    (taken now : State)
    → All IsRead arrivals → TakesAll (opening playout) arrivals before first taken
    → AreFlushSteps taken flushed now → IsRun playout arrivals plays replies
    → (after : List Play) × (plays ≡ before ++ (flushed ++ after))

-- How many positions plays show, with those that are missing.
abbrev pub played_count : List Play → ℕ
played_count [] = 0
played_count (play ∷ plays) = length play.shown + played_count plays

-- Plays move the mark by as many positions as they show, and each shows one at least.
abbrev pub Reach : State → List Play → State → Type 0
Reach old plays new =
    (new.mark ≡ old.mark + played_count plays) × All (λ play. 1 ≤ length play.shown) plays

abbrev pub PlaysReachTheMark : Type 0
PlaysReachTheMark =
    (old new : State) (arrivals : List Arrival) (plays : List Play) (replies : List (Option Reply))
    → 1 ≤ old.playout.window → TakesAll old arrivals plays replies new → Reach old plays new

abbrev pub DuePlaysReachTheMark : Type 0
DuePlaysReachTheMark =
    (old new : State) (seq ssrc : ℕ) (plays : List Play)
    → 1 ≤ old.playout.window → HavePlayed old seq ssrc plays new → Reach old plays new

abbrev pub HeldStepsReachTheMark : Type 0
HeldStepsReachTheMark =
    (old new : State) (time : ℕ) (plays : List Play)
    → 1 ≤ old.playout.window → AreHeldSteps old time plays new → Reach old plays new

abbrev pub FlushStepsReachTheMark : Type 0
FlushStepsReachTheMark =
    (old new : State) (plays : List Play) → 1 ≤ old.playout.window → AreFlushSteps old plays new → Reach old plays new

-- Each datagram gets a reply, or none where its reader refused it.
abbrev pub EachGetsAReply : Type 0
EachGetsAReply =
    (old new : State) (arrivals : List Arrival) (plays : List Play) (replies : List (Option Reply))
    → TakesAll old arrivals plays replies new → length replies ≡ length arrivals

-- Those are counted that came by the stream and got the reply.
abbrev pub CountsAreOfReplies : Type 0
CountsAreOfReplies =
    (stream : Kind) (reply answer : Option Reply) (arrival : Arrival)
    → IsTrue (is_counted stream reply arrival answer) ↔ ((came_by arrival ≡ stream) × (answer ≡ reply))

-- One more datagram adds one to the count of its reply and stream, and nothing to another.
abbrev pub CountsAdd : Type 0
CountsAdd =
    (stream : Kind) (reply answer : Option Reply) (arrivals : List Arrival) (arrival : Arrival)
    (answers : List (Option Reply))
    → length arrivals ≡ length answers
    → count_of stream reply (arrivals ++ arrival ∷ []) (answers ++ answer ∷ [])
    ≡ count_of stream reply arrivals answers + (if is_counted stream reply arrival answer then 1 else 0)

-- No count is more than the datagrams.
abbrev pub CountsStayWithin : Type 0
CountsStayWithin =
    (stream : Kind) (reply : Option Reply) (arrivals : List Arrival) (answers : List (Option Reply))
    → count_of stream reply arrivals answers ≤ length arrivals

-- Laws that go together

-- The facts hold of a new desk, and every call keeps them.
pub record FactsAreKept : Type 0 where
  pub opening : OpeningHolds
  pub media : MediaKeeps
  pub parity : ParityKeeps
  pub play : PlayKeeps
  pub flush : FlushStepKeeps
  pub held : HeldStepKeeps

-- A call has one outcome.
pub record OneOutcome : Type 0 where
  pub media : MediaIsOne
  pub parity : ParityIsOne
  pub play : PlayIsOne
  pub flush : FlushIsOne
  pub held : HeldStepIsOne

-- A flush ends.
pub record FlushesEnd : Type 0 where
  pub gains : ClosureGainsNothing
  pub ends : FlushEnds
  pub joined : FlushStepsJoin
  pub nothing_left : FlushStepsEnd

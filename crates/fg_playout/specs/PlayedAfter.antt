-- After which datagrams each play of a flow's run is made. This project's own.
use Rattle.std.specs.Prelude.{◌≡◌, ◌≢◌, ◌++◌, ◌^◌, ◌<◌, ◌≤◌, ⊤, ℕ, List, [], ◌∷◌, length, Option}
use Rattle.std.specs.List.{All}
use Rattle.fg_shape.specs.Playout.{Playout, PlayoutFits}
use Rattle.fg_playout.specs.declared.reply.Reply.{Reply}
use Rattle.fg_playout.specs.State.{State, opening}
use Rattle.fg_playout.specs.Facts.{Holds}
use Rattle.fg_playout.specs.Room.{HasRoom}
use Rattle.fg_playout.specs.Play.{Play, IsPlay}
use Rattle.fg_playout.specs.Held.{at_time}
use Rattle.fg_playout.specs.Run.{Arrival, time_of, TakesAll, IsRun}
use Rattle.fg_playout.specs.Laws.{IsRead, AreFlushSteps, AreHeldSteps, HavePlayedFor}
use Rattle.fg_playout.specs.PlayedOn.{PlayOn, played_on}
use Rattle.fg_playout.specs.SoundPeelings.{ShowsSoundPeelings}

-- From a desk on only these plays were made, and no datagram was taken, of those that are still to come: held plays before the
-- next one, of which the desk is told the time; or what else is played before it; or, where none is to come, steps of a flush.
-- Then the desk is this one.
pub data OnlyPlayed (old : State) (later : List Arrival) (plays : List Play) (desk : State) : Type 0 where
  by_hold :
      (next : Arrival) (others : List Arrival) (now : State) → later ≡ next ∷ others → old.playout.hold ≢ 0
      → AreHeldSteps old (time_of next) plays now → desk ≡ at_time now (time_of next) → OnlyPlayed old later plays desk
  by_next :
      (next : Arrival) (others : List Arrival) → later ≡ next ∷ others → HavePlayedFor old next plays desk
      → OnlyPlayed old later plays desk
  by_end : later ≡ [] → AreFlushSteps old plays desk → OnlyPlayed old later plays desk

-- A play of a flow, before which these were made, is made on the desk to which a new one has come by taking exactly these
-- datagrams, the flow's first ones, and by plays.
pub record IsMadeAfter
    (playout : Playout) (arrivals : List Arrival) (front : List Play) (made : PlayOn) (earlier : List Arrival) : Type 0 where
  pub later : List Arrival
  pub arrivals_are : arrivals ≡ earlier ++ later
  pub taken : State
  pub plays : List Play
  pub replies : List (Option Reply)
  pub takes : TakesAll (opening playout) earlier plays replies taken
  pub since : List Play
  pub only_played : OnlyPlayed taken later since made.desk
  pub front_is : front ≡ plays ++ since

-- A play of a flow shows the sound peelings of what was admitted before it. Its desk is set as the flow's playout is, the facts
-- hold of it, and there is room; and the play is one of that desk, of a window of at most so many positions as are set.
pub record ShowsWhatWasAdmitted (playout : Playout) (arrivals : List Arrival) (front : List Play) (made : PlayOn) : Type 0 where
  pub earlier : List Arrival
  pub after : IsMadeAfter playout arrivals front made earlier
  pub playout_is : made.desk.playout ≡ playout
  pub holds : Holds made.desk
  pub room : HasRoom made.desk
  pub count : ℕ
  pub few : count ≤ playout.window
  pub next : State
  pub is_play : IsPlay count made.desk made.play next
  pub shows : ShowsSoundPeelings made.desk count made.play

-- Each play has this property, of which the plays before it are told: first these, and then those before it in the list.
abbrev pub EachAfter : (List Play → PlayOn → Type 0) → List Play → List PlayOn → Type 0
EachAfter P front [] = ⊤
EachAfter P front (made ∷ mades) = P front made × EachAfter P (front ++ made.play ∷ []) mades

-- Each window of a run shows so, where the flow's datagrams are fewer than 2^44.
abbrev pub RunsShowWhatWasAdmitted : Type 0
RunsShowWhatWasAdmitted =
    (playout : Playout) (arrivals : List Arrival) (plays : List Play) (replies : List (Option Reply))
    (run : IsRun playout arrivals plays replies)
    → PlayoutFits playout → All IsRead arrivals → length arrivals < 2 ^ 44
    → EachAfter (ShowsWhatWasAdmitted playout arrivals) [] (played_on playout arrivals plays replies run)

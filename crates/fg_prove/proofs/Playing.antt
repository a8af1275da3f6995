-- How the plays of a loop are told, one after another.
use Rattle.std.proofs.Common.{◌≡◌, ◌≢◌, inl, inr, ℕ, List, [], ◌∷◌, ◌++◌, Option, Some, None, Bool, true, false, IsTrue, refl, sym, ap, subst, append-nil}
use Rattle.fg_playout.specs.State.{State}
use Rattle.fg_playout.specs.Admission.{IsDue, IsFresh, counted}
use Rattle.fg_playout.specs.Play.{Play, IsPlay, IsFlushStep, HasMore}
use Rattle.fg_playout.specs.Held.{at_time, IsHeldStep}
use Rattle.fg_playout.specs.Room.{HasRoom}
use Rattle.fg_playout.specs.Run.{ArePlaysHeld, ArePlaysBefore, by_flush, IsFlush}
use Rattle.fg_playout.specs.Laws.{HavePlayed, HavePlayedBefore, AreFlushSteps, AreHeldSteps, FlushStepsEnd, ReadyAfterPlays}
use Rattle.fg_playout.specs.PlayedOn.{PlayOn, flushed_on, held_on, before_on}
use Rattle.fg_playout.specs.DesksJoin.{have_played_on, flush_steps_on, held_steps_on, played_before_on, DueDesksJoin, FlushDesksJoin, HeldDesksJoin, DueDesksEndBefore, FlushDesksEnd, HeldDesksEnd, NoHeldDesks}
use Rattle.fg_desk.specs.Arrivals.{BeforeWithin, FlushesWithin}
use Rattle.fg_prove.specs.Steps.{IsQuiet, HaveTold, HavePart, Tells, Breaks, TellsOne, BreaksOne, no_play, one_play, HaveHeld, have_held_on}
use Rattle.fg_prove.proofs.Telling.{told_none, told_more, part_more}

-- Any plays and one more

module _ (Are : List Play → State → Type 0) (on : (plays : List Play) (new : State) → Are plays new → List PlayOn) (port : ℕ) (held : List ℕ) (before : Option (List ℕ)) where
  tells_more :
      (Plays : Play → State → Type 0) (desk between new : State) (held' held'' : List ℕ) (middle after : Option (List ℕ))
      (so : Tells Are on port held before between held' middle)
      → ((play : Play) (now : State) → Plays play now
      → (both : Are (so.plays ++ play ∷ []) now) × (on (so.plays ++ play ∷ []) now both ≡ on so.plays between so.are ++ record { desk = desk; play = play } ∷ []))
      → TellsOne Plays desk port held' middle new held'' after
      → Tells Are on port held before new held'' after
  tells_more Plays desk between new held' held'' middle after so more one =
      let both = more one.play new one.plays in
      record {
        plays = so.plays ++ one.play ∷ [];
        are = both.0;
        told = subst (λ (mades : List PlayOn). HaveTold port mades held before held'' after) (sym both.1)
            (told_more port (on so.plays between so.are) (record { desk = desk; play = one.play } ∷ []) held held' held'' before middle after so.told one.told);
      }

  breaks_more :
      (Plays : Play → State → Type 0) (desk between : State) (held' : List ℕ) (middle after : Option (List ℕ))
      (so : Tells Are on port held before between held' middle)
      → ((play : Play) (now : State) → Plays play now
      → (both : Are (so.plays ++ play ∷ []) now) × (on (so.plays ++ play ∷ []) now both ≡ on so.plays between so.are ++ record { desk = desk; play = play } ∷ []))
      → BreaksOne Plays desk port held' middle after
      → Breaks Are on port held before after
  breaks_more Plays desk between held' middle after so more (no_play part) = record {
    plays = so.plays;
    now = between;
    are = so.are;
    part = subst (λ (mades : List PlayOn). HavePart port mades held before after) (append-nil (on so.plays between so.are))
        (part_more port (on so.plays between so.are) [] held held' before middle after so.told part);
  }
  breaks_more Plays desk between held' middle after so more (one_play play now plays part) =
      let both = more play now plays in
      record {
        plays = so.plays ++ play ∷ [];
        now = now;
        are = both.0;
        part = subst (λ (mades : List PlayOn). HavePart port mades held before after) (sym both.1)
            (part_more port (on so.plays between so.are) (record { desk = desk; play = play } ∷ []) held held' before middle after so.told part);
      }

-- The same plays, told in another way.
pub tells_as :
    (Are Are' : List Play → State → Type 0) (on : (plays : List Play) (new : State) → Are plays new → List PlayOn)
    (on' : (plays : List Play) (new : State) → Are' plays new → List PlayOn)
    (port : ℕ) (held held' : List ℕ) (before after : Option (List ℕ)) (new new' : State)
    (so : Tells Are on port held before new held' after)
    → (are' : Are' so.plays new') × (on' so.plays new' are' ≡ on so.plays new so.are)
    → Tells Are' on' port held before new' held' after
tells_as Are Are' on on' port held held' before after new new' so same = record {
  plays = so.plays;
  are = same.0;
  told = subst (λ (mades : List PlayOn). HaveTold port mades held before held' after) (sym same.1) so.told;
}

-- Due plays

pub none_due : (old : State) (seq ssrc : ℕ) (port : ℕ) (held : List ℕ) (before : Option (List ℕ)) → Tells (HavePlayed old seq ssrc) (have_played_on old seq ssrc) port held before old held before
none_due old seq ssrc port held before = record { plays = []; are = refl; told = told_none port held before }

due_on_from :
    DueDesksJoin → (old between : State) (seq ssrc : ℕ) (plays : List Play) (are : HavePlayed old seq ssrc plays between)
    → IsDue between seq ssrc → (play : Play) (now : State) → IsPlay between.playout.window between play now
    → (both : HavePlayed old seq ssrc (plays ++ play ∷ []) now)
    × (have_played_on old seq ssrc (plays ++ play ∷ []) now both ≡ have_played_on old seq ssrc plays between are ++ record { desk = between; play = play } ∷ [])
due_on_from join old between seq ssrc plays are due play now is = join old between now seq ssrc plays (play ∷ []) are (due, (now, is, refl))

pub due_more :
    DueDesksJoin → (old between new : State) (seq ssrc port : ℕ) (held held' held'' : List ℕ) (before middle after : Option (List ℕ))
    → IsDue between seq ssrc → Tells (HavePlayed old seq ssrc) (have_played_on old seq ssrc) port held before between held' middle
    → TellsOne (IsPlay between.playout.window between) between port held' middle new held'' after
    → Tells (HavePlayed old seq ssrc) (have_played_on old seq ssrc) port held before new held'' after
due_more join old between new seq ssrc port held held' held'' before middle after due so one =
    tells_more (HavePlayed old seq ssrc) (have_played_on old seq ssrc) port held before (IsPlay between.playout.window between) between between new held' held'' middle after so
    (due_on_from join old between seq ssrc so.plays so.are due) one

-- A fault while what is due before a datagram is played comes before the datagram.
pub due_breaks :
    DueDesksJoin → (old between : State) (seq ssrc port : ℕ) (held held' : List ℕ) (before middle after : Option (List ℕ))
    → (¬ IsFresh old ssrc) → IsDue between seq ssrc
    → Tells (HavePlayed old seq ssrc) (have_played_on old seq ssrc) port held before between held' middle
    → BreaksOne (IsPlay between.playout.window between) between port held' middle after
    → Breaks (HavePlayedBefore old seq ssrc) (played_before_on old seq ssrc) port held before after
due_breaks join old between seq ssrc port held held' before middle after stale due so one =
    let off = breaks_more (HavePlayed old seq ssrc) (have_played_on old seq ssrc) port held before (IsPlay between.playout.window between) between between held' middle after so
    (due_on_from join old between seq ssrc so.plays so.are due) one in
    record { plays = off.plays; now = off.now; are = inr (stale, off.are); part = off.part }

pub due_before :
    DueDesksEndBefore → (old new : State) (seq ssrc port : ℕ) (held held' : List ℕ) (before after : Option (List ℕ))
    → (¬ IsFresh old ssrc) → (¬ IsDue new seq ssrc)
    → Tells (HavePlayed old seq ssrc) (have_played_on old seq ssrc) port held before new held' after
    → Tells (ArePlaysBefore old seq ssrc) (before_on old seq ssrc) port held before new held' after
due_before end old new seq ssrc port held held' before after stale none so =
    tells_as (HavePlayed old seq ssrc) (ArePlaysBefore old seq ssrc) (have_played_on old seq ssrc) (before_on old seq ssrc) port held held' before after new new so
    (end old new seq ssrc so.plays stale so.are none)

-- A flush

pub none_flushed : (old : State) (port : ℕ) (held : List ℕ) (before : Option (List ℕ)) → Tells (AreFlushSteps old) (flush_steps_on old) port held before old held before
none_flushed old port held before = record { plays = []; are = refl; told = told_none port held before }

flush_on_from :
    FlushDesksJoin → (old between : State) (plays : List Play) (are : AreFlushSteps old plays between)
    → (play : Play) (now : State) → IsFlushStep between play now
    → (both : AreFlushSteps old (plays ++ play ∷ []) now)
    × (flush_steps_on old (plays ++ play ∷ []) now both ≡ flush_steps_on old plays between are ++ record { desk = between; play = play } ∷ [])
flush_on_from join old between plays are play now is = join old between now plays (play ∷ []) are (now, is, refl)

pub flush_more :
    FlushDesksJoin → (old between new : State) (port : ℕ) (held held' held'' : List ℕ) (before middle after : Option (List ℕ))
    → Tells (AreFlushSteps old) (flush_steps_on old) port held before between held' middle
    → TellsOne (IsFlushStep between) between port held' middle new held'' after
    → Tells (AreFlushSteps old) (flush_steps_on old) port held before new held'' after
flush_more join old between new port held held' held'' before middle after so one =
    tells_more (AreFlushSteps old) (flush_steps_on old) port held before (IsFlushStep between) between between new held' held'' middle after so
    (flush_on_from join old between so.plays so.are) one

pub flush_breaks :
    FlushDesksJoin → (old between : State) (port : ℕ) (held held' : List ℕ) (before middle after : Option (List ℕ))
    → Tells (AreFlushSteps old) (flush_steps_on old) port held before between held' middle
    → BreaksOne (IsFlushStep between) between port held' middle after
    → Breaks (AreFlushSteps old) (flush_steps_on old) port held before after
flush_breaks join old between port held held' before middle after so one =
    breaks_more (AreFlushSteps old) (flush_steps_on old) port held before (IsFlushStep between) between between held' middle after so
    (flush_on_from join old between so.plays so.are) one

pub flush_ends :
    FlushDesksEnd → (old empty : State) (port : ℕ) (held held' : List ℕ) (before after : Option (List ℕ)) → (¬ HasMore empty)
    → Tells (AreFlushSteps old) (flush_steps_on old) port held before empty held' after
    → Tells (IsFlush old) (flushed_on old) port held before empty held' after
flush_ends end old empty port held held' before after none so =
    tells_as (AreFlushSteps old) (IsFlush old) (flush_steps_on old) (flushed_on old) port held held' before after empty empty so
    (end old empty so.plays so.are none)

-- Held plays

pub none_held : (old : State) (time : ℕ) (port : ℕ) (held : List ℕ) (before : Option (List ℕ)) → Tells (AreHeldSteps old time) (held_steps_on old time) port held before old held before
none_held old time port held before = record { plays = []; are = refl; told = told_none port held before }

held_on_from :
    HeldDesksJoin → (old between : State) (time : ℕ) (plays : List Play) (are : AreHeldSteps old time plays between)
    → (play : Play) (now : State) → IsHeldStep between time (Some play) now
    → (both : AreHeldSteps old time (plays ++ play ∷ []) now)
    × (held_steps_on old time (plays ++ play ∷ []) now both ≡ held_steps_on old time plays between are ++ record { desk = at_time between time; play = play } ∷ [])
held_on_from join old between time plays are play now is = join old between now time plays (play ∷ []) are (now, is, refl)

pub held_more :
    HeldDesksJoin → (old between new : State) (time port : ℕ) (held held' held'' : List ℕ) (before middle after : Option (List ℕ))
    → Tells (AreHeldSteps old time) (held_steps_on old time) port held before between held' middle
    → TellsOne (λ play now. IsHeldStep between time (Some play) now) (at_time between time) port held' middle new held'' after
    → Tells (AreHeldSteps old time) (held_steps_on old time) port held before new held'' after
held_more join old between new time port held held' held'' before middle after so one =
    tells_more (AreHeldSteps old time) (held_steps_on old time) port held before (λ play now. IsHeldStep between time (Some play) now) (at_time between time) between new held' held'' middle after so
    (held_on_from join old between time so.plays so.are) one

pub held_breaks :
    HeldDesksJoin → (old between : State) (time port : ℕ) (held held' : List ℕ) (before middle after : Option (List ℕ))
    → old.playout.hold ≢ 0 → Tells (AreHeldSteps old time) (held_steps_on old time) port held before between held' middle
    → BreaksOne (λ play now. IsHeldStep between time (Some play) now) (at_time between time) port held' middle after
    → Breaks (HaveHeld old time) (have_held_on old time) port held before after
held_breaks join old between time port held held' before middle after some so one =
    let off = breaks_more (AreHeldSteps old time) (held_steps_on old time) port held before (λ play now. IsHeldStep between time (Some play) now) (at_time between time) between held' middle after so
    (held_on_from join old between time so.plays so.are) one in
    record { plays = off.plays; now = off.now; are = (some, off.are); part = off.part }

pub held_ends :
    HeldDesksEnd → (old last new : State) (time port : ℕ) (held held' : List ℕ) (before after : Option (List ℕ))
    → old.playout.hold ≢ 0 → IsHeldStep last time None new
    → Tells (AreHeldSteps old time) (held_steps_on old time) port held before last held' after
    → Tells (ArePlaysHeld old time) (held_on old time) port held before new held' after
held_ends end old last new time port held held' before after some none so =
    tells_as (AreHeldSteps old time) (ArePlaysHeld old time) (held_steps_on old time) (held_on old time) port held held' before after last new so
    (end old last new time so.plays some so.are none)

pub nothing_held :
    NoHeldDesks → (old : State) (time port : ℕ) (held : List ℕ) (before : Option (List ℕ)) → old.playout.hold ≡ 0
    → Tells (ArePlaysHeld old time) (held_on old time) port held before old held before
nothing_held law old time port held before none =
    let are = law old time none in
    record {
      plays = [];
      are = are.0;
      told = subst (λ (mades : List PlayOn). HaveTold port mades held before held before) (sym are.1) (told_none port held before);
    }

-- Before a media datagram

module _ (old : State) (seq ssrc : ℕ) (port : ℕ) (held held' : List ℕ) (before after : Option (List ℕ)) (fresh : IsFresh old ssrc) where
  pub flushed_before :
      (new : State) → (empty : State) × (new ≡ counted empty) × Tells (IsFlush old) (flushed_on old) port held before empty held' after
      → Tells (ArePlaysBefore old seq ssrc) (before_on old seq ssrc) port held before new held' after
  flushed_before new (empty, counts, so) =
      record { plays = so.plays; are = by_flush empty fresh so.are counts; told = so.told }

  pub room_if_flushed :
      FlushStepsEnd → BeforeWithin old seq ssrc → (new : State)
      → (empty : State) × (new ≡ counted empty) × Tells (IsFlush old) (flushed_on old) port held before empty held' after → HasRoom new
  room_if_flushed end within new (empty, counts, so) =
      subst HasRoom (sym counts) (within so.plays empty (inl (fresh, ((end old empty so.plays).0 so.are).0))).2

  pub none_due_then :
      ReadyAfterPlays → (new : State) → (empty : State) × (new ≡ counted empty) × Tells (IsFlush old) (flushed_on old) port held before empty held' after
      → ¬ IsDue new seq ssrc
  none_due_then ready new flushed = (let so = flushed_before new flushed in (ready old new seq ssrc so.plays so.are).0)

  pub nothing_left_then :
      ReadyAfterPlays → (new : State) → (empty : State) × (new ≡ counted empty) × Tells (IsFlush old) (flushed_on old) port held before empty held' after
      → IsFresh new ssrc → ¬ HasMore new
  nothing_left_then ready new flushed = (let so = flushed_before new flushed in (ready old new seq ssrc so.plays so.are).1)

  pub flush_breaks_off :
      Breaks (AreFlushSteps old) (flush_steps_on old) port held before after
      → Breaks (HavePlayedBefore old seq ssrc) (played_before_on old seq ssrc) port held before after
  flush_breaks_off off = record { plays = off.plays; now = off.now; are = inl (fresh, off.are); part = off.part }

pub flushes_if_fresh : (old : State) (seq ssrc : ℕ) → BeforeWithin old seq ssrc → IsFresh old ssrc → FlushesWithin old
flushes_if_fresh old seq ssrc within fresh flushed new steps = (let h = within flushed new (inl (fresh, steps)) in (h.0, h.1))

-- A test that fails.
pub fails : (P : Type 0) (b : Bool) → b ≡ false → (P → IsTrue b) → ¬ P
fails P b isnt all p = (let yes : b ≡ true = all p in cc)

-- A held step keeps how a flow is set.
pub held_keeps : (old new : State) (time : ℕ) (play : Play) → IsHeldStep old time (Some play) new → new.playout ≡ old.playout
held_keeps old new time play step = ap (λ (s : State). s.playout) step.plays.rest

-- Where nothing more is told, the same is.
pub quiet_tells :
    (Are : List Play → State → Type 0) (on : (plays : List Play) (new : State) → Are plays new → List PlayOn)
    (port : ℕ) (held held' held'' : List ℕ) (before middle after : Option (List ℕ)) (new : State) → IsQuiet held' middle held'' after
    → Tells Are on port held before new held' middle → Tells Are on port held before new held'' after
quiet_tells Are on port held held' held'' before middle after new quiet so =
    subst (λ (w : Option (List ℕ)). Tells Are on port held before new held'' w) (sym quiet.written)
    (subst (λ (t : List ℕ). Tells Are on port held before new t middle) (sym quiet.held_is) so)

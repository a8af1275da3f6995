-- Plays keep the facts.
use Rattle.std.proofs.Common.{◌≡◌, ◌≢◌, ◌≤◌, ℕ, Bool, true, false, cond, ltb, Option, Some, None, IsSome, is_some, refl, sym, ap, subst, ◌∙◌, ⊎_elim, arith}
use Rattle.std.proofs.lemmas.Bool.{cases_lt}
use Rattle.std.proofs.lemmas.Option.{none-some}
use Rattle.std.specs.List.{Contains}
use Rattle.std.specs.FinMap.{get, empty}
use Rattle.fg_words.specs.declared.Word.{Word}
use Rattle.fg_peel.specs.Equation.{Equation}
use Rattle.fg_peel.proofs.Options.{value_of}
use Rattle.fg_peel.proofs.Maps.{nothing_in_empty}
use Rattle.fg_playout.specs.State.{State, Live, Words, known, live_equations}
use Rattle.fg_playout.specs.Solution.{InClosure, given, derived}
use Rattle.fg_playout.specs.Play.{Play, IsPlay, IsFlushStep}
use Rattle.fg_playout.specs.Facts.{Holds, IsKept, IsReceived, IsLive}
use Rattle.fg_playout.specs.Laws.{PlayKeeps, FlushStepKeeps, ClosureGainsNothing}
use Rattle.fg_playout.proofs.Equations.{serial_of}
use Rattle.fg_playout.proofs.Orderly.{orderly_from_holds, known_below, known_ahead}
use Rattle.fg_playout.proofs.Opened.{counted_holds}
use Rattle.fg_playout.proofs.Plays.{mark_rises, kept_near, kept_is_media, received_before, followed_before}

module _ (count : ℕ) (old : State) (play : Play) (new : State) (plays : IsPlay count old play new) (holds : Holds old) where
  same_window : new.playout.window ≡ old.playout.window
  same_window = ap (λ (s : State). s.playout.window) plays.rest

  same_depth : new.playout.depth ≡ old.playout.depth
  same_depth = ap (λ (s : State). s.playout.depth) plays.rest

  same_top : new.top ≡ old.top
  same_top = ap (λ (s : State). s.top) plays.rest

  same_origin : new.origin ≡ old.origin
  same_origin = ap (λ (s : State). s.origin) plays.rest

  same_previous : new.previous ≡ old.previous
  same_previous = ap (λ (s : State). s.previous) plays.rest

  same_runs : new.runs ≡ old.runs
  same_runs = ap (λ (s : State). s.runs) plays.rest

  same_admitted : new.admitted ≡ old.admitted
  same_admitted = ap (λ (s : State). s.admitted) plays.rest

  is_kept : (position : ℕ) (word : Word) → get new.kept position ≡ Some word → IsKept new position word
  is_kept position word is =
      let near = kept_near count old play new plays position word is in
      record { media = kept_is_media count old play new plays (orderly_from_holds old holds) position word is; below = near.0; near = near.1 }

  is_received : (position : ℕ) (word : Word) → get new.media position ≡ Some word → IsReceived new position word
  is_received position word is =
      let before = received_before count old play new plays position word is in
      let k = holds.media position word before.1 in
      let near = k.near in
      let rises = mark_rises count old play new plays in
      record { media = k.media; ahead = before.0; near = omega (arith, near, rises, same_depth) }

  is_timed : (position : ℕ) → is_some (get new.times position) ≡ is_some (get new.media position)
  is_timed position = ap is_some (plays.times position) ∙ go (ltb position new.mark) ∙ sym (ap is_some (plays.media position))
    where
      go : (b : Bool) → is_some (cond b None (get old.times position)) ≡ is_some (cond b None (get old.media position))
      go true = refl
      go false = holds.timed position

  is_clocked : (position time : ℕ) → get new.times position ≡ Some time → time ≤ new.clock
  is_clocked position time is =
      let before = go (ltb position new.mark) (sym (plays.times position) ∙ is) in
      let below = holds.clocked position time before in
      let same : new.clock ≡ old.clock = ap (λ (s : State). s.clock) plays.rest in
      omega (arith, below, same)
    where
      go : (b : Bool) → cond b None (get old.times position) ≡ Some time → get old.times position ≡ Some time
      go true none = absurd (none-some time none)
      go false some = some

  is_live : (serial : ℕ) (live : Live) → get new.equations serial ≡ Some live → IsLive new serial live
  is_live serial live is =
      let left = (plays.equations serial live).0 is in
      let k = holds.live serial live left.0 in
      let near = k.near in
      let numbered = k.numbered in
      let rises = mark_rises count old play new plays in
      record {
        shape = k.shape;
        base = k.base;
        reaches = left.2.reaches;
        near = omega (arith, near, rises, same_depth);
        based = left.2.based;
        numbered = omega (arith, numbered, same_admitted);
        placed = k.placed;
      }

  pub play_holds : old.top ≢ None → Holds new
  play_holds opened = record {
    window = (let w = holds.window in (omega (arith, w.0, same_window), omega (arith, w.1, same_window)));
    depth = (let d = holds.depth in omega (arith, d, same_window, same_depth));
    kept = is_kept;
    media = is_received;
    timed = is_timed;
    clocked = is_clocked;
    live = is_live;
    apart = λ s t one other is is'. holds.apart s t one other ((plays.equations s one).0 is).0 ((plays.equations t other).0 is').0;
    origin = (let o = holds.origin in let rises = mark_rises count old play new plays in omega (arith, o, rises, same_origin));
    based = λ s l is. (let b = holds.based s l ((plays.equations s l).0 is).0 in omega (arith, b, same_origin));
    unopened = λ none. absurd (opened (sym same_top ∙ none));
    opened = λ some. (let r = holds.opened opened in omega (arith, r, same_runs));
    senders = λ top is before. holds.senders top (sym same_top ∙ is) (sym same_previous ∙ before);
  }

pub play_keeps : PlayKeeps
play_keeps count old new play holds opened plays = play_holds count old play new plays holds opened

-- Before the first media datagram nothing follows.
module _ (desk : State) (kept : desk.kept ≡ empty) (media : desk.media ≡ empty) (equations : desk.equations ≡ empty) where
  nothing_known : (position : ℕ) → IsSome (known desk position) → ⊥
  nothing_known position some = ⊎_elim
      (λ below.
      let v = value_of (get desk.kept position) (subst (λ (o : Option Word). IsSome o) (known_below desk position below) some) in
      nothing_in_empty position v.0 (subst (λ (m : Words). get m position ≡ Some v.0) kept v.1))
      (λ ahead.
      let v = value_of (get desk.media position) (subst (λ (o : Option Word). IsSome o) (known_ahead desk position ahead) some) in
      nothing_in_empty position v.0 (subst (λ (m : Words). get m position ≡ Some v.0) media v.1))
      (cases_lt position desk.mark)

  nothing_live : (equation : Equation) → Contains (live_equations desk) equation → ⊥
  nothing_live equation listed =
      let r = serial_of desk equation listed in
      nothing_in_empty r.0 r.1 (sym (ap (λ m. get m r.0) equations) ∙ r.2)

  nothing_follows : (position : ℕ) → InClosure desk position → ⊥
  nothing_follows position (given some) = nothing_known position some
  nothing_follows position (derived equation listed slot ahead others) = nothing_live equation listed

pub step_holds : (old new : State) (play : Play) → Holds old → IsFlushStep old play new → Holds new
step_holds old new play holds step = play_holds _ old play new step.plays holds
    (λ none.
    let u = holds.unopened none in
    nothing_follows old u.2 u.1 u.3 step.highest step.highest_is.inside)

pub flush_step_keeps : FlushStepKeeps
flush_step_keeps old new None holds flushes = subst Holds (sym flushes.1) (counted_holds old holds)
flush_step_keeps old new (Some play) holds step = step_holds old new play holds step

pub closure_gains_nothing : ClosureGainsNothing
closure_gains_nothing count old new play plays = followed_before count old play new plays

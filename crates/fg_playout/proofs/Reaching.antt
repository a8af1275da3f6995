-- Plays move the mark by as many positions as they show.
use Rattle.std.proofs.Common.{◌≡◌, ◌+◌, ◌-◌, ◌≤◌, ◌++◌, ℕ, min, List, [], ◌∷◌, length, Option, Some, None, refl, sym, ap, subst, ◌∙◌, arith}
use Rattle.std.proofs.lemmas.List.Elements.{All-nil, All-cons, All-append}
use Rattle.fg_words.specs.declared.Word.{Word}
use Rattle.fg_peel.proofs.Options.{some_and}
use Rattle.fg_playout.specs.declared.reply.Reply.{Reply}
use Rattle.fg_playout.specs.declared.reply.Reply.TheVariants.{Admitted}
use Rattle.fg_playout.specs.State.{State}
use Rattle.fg_playout.specs.Admission.{Parity, IsAfterMedia, IsAfterParity, IsLeastFree, Sender, former, own, another, sender_of, run_by, run_on, position_on, base_on, with_media, with_equation, equation_at}
use Rattle.fg_playout.specs.Play.{Play, IsPlay}
use Rattle.fg_playout.specs.Held.{at_time}
use Rattle.fg_playout.specs.Run.{Arrival, carries, protects, refused, time_of, AreHeldPlays, ArePlaysHeld, unlimited, limited, ArePlaysBefore, by_flush, by_due, TakesThen, Takes}
use Rattle.fg_playout.specs.Laws.{HavePlayed, AreFlushSteps, Reach, played_count, PlaysReachTheMark, DuePlaysReachTheMark, FlushStepsReachTheMark, HeldStepsReachTheMark, EachGetsAReply}
use Rattle.fg_playout.proofs.Following.{media_keeps_mark, parity_keeps_mark}
use Rattle.fg_playout.proofs.Joining.{plays_due_end, flush_steps_end}

abbrev ShowsSome : Play → Type 0
ShowsSome play = 1 ≤ length play.shown

reach_none : (old new : State) → new.mark ≡ old.mark → Reach old [] new
reach_none old new same = (omega (arith, same), All-nil ShowsSome)

reach_play :
    (count : ℕ) (old : State) (play : Play) (next : State) (plays : List Play) (new : State) → 1 ≤ count
    → IsPlay count old play next → Reach next plays new → Reach old (play ∷ plays) new
reach_play count old play next plays new some is rest =
    let mark = is.mark in
    let shown = is.length_is in
    let ends = rest.0 in (
      omega (arith, mark, shown, ends),
      All-cons ShowsSome play plays (omega (arith, some, shown)) rest.1,
    )

count_append : (one other : List Play) → played_count (one ++ other) ≡ played_count one + played_count other
count_append [] other = omega arith
count_append (play ∷ one) other = let rest = count_append one other in omega (arith, rest)

reach_append :
    (old between new : State) (one other : List Play) → Reach old one between → Reach between other new
    → Reach old (one ++ other) new
reach_append old between new one other a b =
    let first = a.0 in
    let second = b.0 in
    let both = count_append one other in
    (omega (arith, first, second, both), All-append ShowsSome one other a.1 b.1)

reach_same : (old new new' : State) (plays : List Play) → new'.mark ≡ new.mark → Reach old plays new → Reach old plays new'
reach_same old new new' plays same reach = let ends = reach.0 in (omega (arith, same, ends), reach.1)

pub play_keeps_window : (count : ℕ) (old : State) (play : Play) (new : State) → IsPlay count old play new → new.playout.window ≡ old.playout.window
play_keeps_window count old play new is = ap (λ (s : State). s.playout.window) is.rest

pub due_reach : DuePlaysReachTheMark
due_reach old new seq ssrc [] some played = reach_none old new (ap (λ (s : State). s.mark) played)
due_reach old new seq ssrc (play ∷ plays) some played =
    let window = play_keeps_window old.playout.window old play played.1.0 played.1.1 in
    reach_play old.playout.window old play played.1.0 plays new some played.1.1
    (due_reach played.1.0 new seq ssrc plays (omega (arith, some, window)) played.1.2)

pub steps_reach : FlushStepsReachTheMark
steps_reach old new [] some steps = reach_none old new (ap (λ (s : State). s.mark) steps)
steps_reach old new (play ∷ plays) some steps =
    let step = steps.1 in
    let more : old.mark ≤ step.highest = step.more in
    let window = play_keeps_window (min old.playout.window (step.highest + 1 - old.mark)) old play steps.0 step.plays in
    reach_play (min old.playout.window (step.highest + 1 - old.mark)) old play steps.0 plays new (omega (arith, some, more)) step.plays
    (steps_reach steps.0 new plays (omega (arith, some, window)) steps.2)

-- Held steps.
pub held_reach : HeldStepsReachTheMark
held_reach old new time [] some steps = reach_none old new (ap (λ (s : State). s.mark) steps)
held_reach old new time (play ∷ plays) some steps =
    let step = steps.1 in
    let ahead : old.mark ≤ step.greatest = step.greatest_is.inside.1 in
    let window = play_keeps_window (min old.playout.window (step.greatest + 1 - old.mark)) (at_time old time) play steps.0 step.plays in
    reach_play (min old.playout.window (step.greatest + 1 - old.mark)) (at_time old time) play steps.0 plays new (omega (arith, some, ahead)) step.plays
    (held_reach steps.0 new time plays (omega (arith, some, window)) steps.2)

run_keeps_window : (old : State) (sender : Sender) → (run_by old sender).playout.window ≡ old.playout.window
run_keeps_window old former = refl
run_keeps_window old (own top) = refl
run_keeps_window old another = refl

pub media_keeps_window : (old new : State) (seq ssrc : ℕ) (word : Word) (reply : Reply) → IsAfterMedia old seq ssrc word reply new → new.playout.window ≡ old.playout.window
media_keeps_window old new seq ssrc word Admitted after =
    let a = some_and (position_on old seq ssrc) (λ p. new ≡ with_media (run_on old ssrc) seq ssrc p word) after in
    ap (λ (s : State). s.playout.window) a.2 ∙ run_keeps_window old (sender_of old ssrc)
media_keeps_window old new seq ssrc word reply after = ap (λ (s : State). s.playout.window) after

pub parity_keeps_window : (old new : State) (parity : Parity) (reply : Reply) → IsAfterParity old parity reply new → new.playout.window ≡ old.playout.window
parity_keeps_window old new parity Admitted after =
    let a = some_and (base_on old parity.base)
    (λ position. (place : ℕ) × IsLeastFree old.equations place × (new ≡ with_equation old place (equation_at position parity))) after in
    ap (λ (s : State). s.playout.window) a.2.2
parity_keeps_window old new parity reply after = ap (λ (s : State). s.playout.window) after

pub due_keep_window : (old : State) (seq ssrc : ℕ) (plays : List Play) (new : State) → HavePlayed old seq ssrc plays new → new.playout.window ≡ old.playout.window
due_keep_window old seq ssrc [] new played = ap (λ (s : State). s.playout.window) played
due_keep_window old seq ssrc (play ∷ plays) new played =
    due_keep_window played.1.0 seq ssrc plays new played.1.2 ∙ play_keeps_window old.playout.window old play played.1.0 played.1.1

steps_keep_window : (old : State) (plays : List Play) (new : State) → AreFlushSteps old plays new → new.playout.window ≡ old.playout.window
steps_keep_window old [] new steps = ap (λ (s : State). s.playout.window) steps
steps_keep_window old (play ∷ plays) new steps =
    steps_keep_window steps.0 plays new steps.2
    ∙ play_keeps_window (min old.playout.window (steps.1.highest + 1 - old.mark)) old play steps.0 steps.1.plays

-- What is played before a media datagram reaches the mark, too.
before_reaches :
    (old : State) (seq ssrc : ℕ) (plays : List Play) (new : State) → 1 ≤ old.playout.window
    → ArePlaysBefore old seq ssrc plays new → Reach old plays new × (new.playout.window ≡ old.playout.window)
before_reaches old seq ssrc plays new some (by_flush empty fresh flush counts) =
    let steps = ((flush_steps_end old empty plays).0 flush).0 in (
      reach_same old empty new plays (ap (λ (s : State). s.mark) counts) (steps_reach old empty plays some steps),
      ap (λ (s : State). s.playout.window) counts ∙ steps_keep_window old plays empty steps,
    )
before_reaches old seq ssrc plays new some (by_due stale due) =
    let played = ((plays_due_end old new seq ssrc plays).0 due).0 in
    (due_reach old new seq ssrc plays some played, due_keep_window old seq ssrc plays new played)

-- So do held plays.
steps_held_reach :
    (old : State) (time : ℕ) (plays : List Play) (new : State) → 1 ≤ old.playout.window
    → AreHeldPlays old time plays new → Reach old plays new × (new.playout.window ≡ old.playout.window)
steps_held_reach old time [] new some steps =
    (reach_none old new (ap (λ (s : State). s.mark) steps.1), ap (λ (s : State). s.playout.window) steps.1)
steps_held_reach old time (play ∷ plays) new some steps =
    let step = steps.1 in
    let ahead : old.mark ≤ step.greatest = step.greatest_is.inside.1 in
    let window = play_keeps_window (min old.playout.window (step.greatest + 1 - old.mark)) (at_time old time) play steps.0 step.plays in
    let rest = steps_held_reach steps.0 time plays new (omega (arith, some, window)) steps.2 in (
      reach_play (min old.playout.window (step.greatest + 1 - old.mark)) (at_time old time) play steps.0 plays new (omega (arith, some, ahead)) step.plays
          rest.0,
      rest.1 ∙ window,
    )

held_reaches :
    (old : State) (time : ℕ) (plays : List Play) (new : State) → 1 ≤ old.playout.window
    → ArePlaysHeld old time plays new → Reach old plays new × (new.playout.window ≡ old.playout.window)
held_reaches old time plays new some (unlimited none no_plays same) = (
  subst (λ (ps : List Play). Reach old ps new) (sym no_plays) (reach_none old new (ap (λ (s : State). s.mark) same)),
  ap (λ (s : State). s.playout.window) same,
)
held_reaches old time plays new some (limited held steps) = steps_held_reach old time plays new some steps

then_reaches :
    (old : State) (arrival : Arrival) (plays : List Play) (reply : Option Reply) (new : State) → 1 ≤ old.playout.window
    → TakesThen old arrival plays reply new → Reach old plays new × (new.playout.window ≡ old.playout.window)
then_reaches old (carries time seq ssrc word) plays None new some takes = absurd takes
then_reaches old (carries time seq ssrc word) plays (Some reply) new some takes =
    let ready = takes.0 in
    let before = before_reaches old seq ssrc plays ready some takes.1 in (
      reach_same old ready new plays (media_keeps_mark ready new seq ssrc word reply takes.2.after) before.0,
      media_keeps_window ready new seq ssrc word reply takes.2.after ∙ before.1,
    )
then_reaches old (protects time stream parity) plays None new some takes = absurd takes
then_reaches old (protects time stream parity) plays (Some reply) new some takes = (
  subst (λ (ps : List Play). Reach old ps new) (sym takes.0) (reach_none old new (parity_keeps_mark old new parity reply takes.1.after)),
  parity_keeps_window old new parity reply takes.1.after,
)
then_reaches old (refused time stream) plays None new some takes = (
  subst (λ (ps : List Play). Reach old ps new) (sym takes.0) (reach_none old new (ap (λ (s : State). s.mark) takes.1)),
  ap (λ (s : State). s.playout.window) takes.1,
)
then_reaches old (refused time stream) plays (Some reply) new some takes = absurd takes

taking_reaches :
    (old : State) (arrival : Arrival) (plays : List Play) (reply : Option Reply) (new : State) → 1 ≤ old.playout.window
    → Takes old arrival plays reply new → Reach old plays new × (new.playout.window ≡ old.playout.window)
taking_reaches old arrival plays reply new some takes =
    let held = held_reaches old (time_of arrival) takes.held takes.ready some takes.holds in
    let window = held.1 in
    let rest = then_reaches takes.ready arrival takes.after reply new (omega (arith, some, window)) takes.takes in (
      subst (λ (ps : List Play). Reach old ps new) (sym takes.plays_are)
          (reach_append old takes.ready new takes.held takes.after held.0 rest.0),
      rest.1 ∙ held.1,
    )

pub plays_reach : PlaysReachTheMark
plays_reach old new [] plays replies some takes =
    subst (λ (ps : List Play). Reach old ps new) (sym takes.0) (reach_none old new (ap (λ (s : State). s.mark) takes.2))
plays_reach old new (arrival ∷ arrivals) plays [] some takes = absurd takes
plays_reach old new (arrival ∷ arrivals) plays (reply ∷ replies) some takes =
    let first = taking_reaches old arrival takes.0 reply takes.2 some takes.4 in
    let window = first.1 in
    subst (λ (ps : List Play). Reach old ps new) (sym takes.3)
    (reach_append old takes.2 new takes.0 takes.1 first.0
    (plays_reach takes.2 new arrivals takes.1 replies (omega (arith, some, window)) takes.5))

pub each_gets_a_reply : EachGetsAReply
each_gets_a_reply old new [] plays replies takes = ap length takes.1
each_gets_a_reply old new (arrival ∷ arrivals) plays [] takes = absurd takes
each_gets_a_reply old new (arrival ∷ arrivals) plays (reply ∷ replies) takes =
    let rest = each_gets_a_reply takes.2 new arrivals takes.1 replies takes.5 in omega (arith, rest)

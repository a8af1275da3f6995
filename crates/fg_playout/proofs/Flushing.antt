-- A flush ends.
use Rattle.std.proofs.Common.{◌≡◌, ap, ◌+◌, ◌-◌, ◌≤◌, ℕ, min, [], ◌∷◌, length, arith}
use Rattle.fg_playout.specs.State.{State}
use Rattle.fg_playout.specs.Play.{Play, IsHighest, IsFlushStep}
use Rattle.fg_playout.specs.Laws.{FlushEnds}
use Rattle.fg_playout.proofs.Plays.{followed_before}

pub one_highest : (desk : State) (one other : ℕ) → IsHighest desk one → IsHighest desk other → one ≡ other
one_highest desk one other first second =
    let up = second.greatest one first.inside in
    let down = first.greatest other second.inside in
    omega (arith, up, down)

-- The highest position after a step was at most the highest before.
highest_falls : (old next : State) (play : Play) (highest after : ℕ) → IsFlushStep old play next → IsHighest old highest → IsHighest next after → after ≤ highest
highest_falls old next play highest after step is is' =
    is.greatest after (followed_before _ old play next step.plays after is'.inside)

pub flush_ends : FlushEnds
flush_ends old new [] highest window is steps = omega arith
flush_ends old new (play ∷ []) highest window is steps =
    let step = steps.1 in
    let more : old.mark ≤ step.highest = step.more in
    let same : step.highest ≡ highest = one_highest old step.highest highest step.highest_is is in
    omega (arith, more, same)
flush_ends old new (play ∷ following ∷ plays) highest window is steps =
    let step = steps.1 in
    let more : old.mark ≤ step.highest = step.more in
    let same : step.highest ≡ highest = one_highest old step.highest highest step.highest_is is in
    let mark = step.plays.mark in
    let kept : steps.0.playout.window ≡ old.playout.window = ap (λ (s : State). s.playout.window) step.plays.rest in
    let next = steps.0 in
    let step' = steps.2.1 in
    let after : ℕ = step'.highest in
    let falls : after ≤ highest = highest_falls old next play highest after step is step'.highest_is in
    let more' : next.mark ≤ after = step'.more in
    let rest : length (following ∷ plays) ≤ after + 1 - next.mark =
    flush_ends next new (following ∷ plays) after (omega (arith, window, kept)) step'.highest_is steps.2 in
    let least : 1 ≤ min old.playout.window (step.highest + 1 - old.mark) = omega (arith, window, more) in
    let counted : length (play ∷ following ∷ plays) ≡ length (following ∷ plays) + 1 = omega arith in
    omega (arith, rest, falls, more', mark, least, counted, same, more)

use Rattle.std.proofs.Common.{◌≡◌, ◌<◌, ◌≤◌, sym, subst}
use Rattle.fg_hold.specs.Inside.{state_of}
use Rattle.fg_hold.specs.Steps.{TakesHeld}
use Rattle.fg_hold.specs.Waiting.{WaitingState, since, high}
use Rattle.fg_hold.proofs.Held.{notes_earliest, then_takes}
use Rattle.fg_hold.proofs.Waiting.take_while_held.Goals as goal

pub loop-preserved : goal.loop-preserved
loop-preserved c = then_takes _ _ _ c.loop.invariant c.loop-test.ensures.takes

pub returns-clause-takes : goal.returns-clause-takes
returns-clause-takes c =
    let w : WaitingState = state_of c.self.inside in
    let time = c.saturating_add-self-inside.result in
    then_takes _ _ _ (then_takes _ _ _ c.loop.invariant c.loop-test.ensures.takes)
    (subst (λ (s : WaitingState). TakesHeld s (record w { earliest_held = time })) c.self.view_is
    (notes_earliest w c.since_oldest.result time
    (subst (λ (s : WaitingState). s.first < s.next → c.since_oldest.result ≡ since s (high s s.first)) (sym c.self.view_is)
    c.since_oldest.ensures.some)
    (subst (λ (s : WaitingState). s.next ≤ s.first → c.since_oldest.result ≡ s.clock) (sym c.self.view_is)
    c.since_oldest.ensures.none) c.saturating_add-self-inside.ensures))

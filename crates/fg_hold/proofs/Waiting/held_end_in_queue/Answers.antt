use Rattle.std.proofs.Common.{◌+◌, ℕ, subst, arith}
use Rattle.fg_hold.specs.Inside.{state_of}
use Rattle.fg_hold.specs.Steps.{TakesHeld}
use Rattle.fg_hold.specs.Waiting.{WaitingState, HasRoom}
use Rattle.fg_hold.proofs.Held.{takes_oldest, then_takes}
use Rattle.fg_hold.proofs.Waiting.held_end_in_queue.Goals as goal

pub loop-number-preserved : goal.loop-number-preserved
loop-number-preserved c =
    let clock : ℕ = c.args.clock in
    let number : ℕ = c.loop-number.number in
    let end : ℕ = c.loop-number.end in
    let next : ℕ = c.saturating_add-end.result in
    let w : WaitingState = record (state_of c.self.inside) { clock = clock; first = number; held_end = end } in
    let room : HasRoom w = record {
      came = c.self.invariant.came;
      highs = c.self.invariant.highs;
      order = omega arith;
      few = c.self.invariant.few;
      limit = c.self.invariant.limit;
    } in
    then_takes _ _ _ c.loop-number.invariant
    (subst
    (λ (s : WaitingState). TakesHeld (record s { clock = clock; first = number; held_end = end })
    (record s { clock = clock; first = number + 1; held_end = next })) c.self.view_is
    (takes_oldest w c.at-high.result c.at.result next room c.loop-number-test.true c.at-high.ensures c.at.ensures (omega arith)
    c.saturating_add-end.ensures))

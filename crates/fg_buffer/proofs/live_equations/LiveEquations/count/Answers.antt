use Rattle.std.proofs.Common.{ap, subst, arith}
use Rattle.std.specs.FinMap.{len}
use Rattle.fg_buffer.specs.LiveEquations.{LiveState, AreLive}
use Rattle.fg_buffer.proofs.LiveCalls.{are_live}
use Rattle.fg_buffer.proofs.LiveViews.{count_live}
use Rattle.fg_buffer.proofs.live_equations.LiveEquations.count.Goals as goal

pub returns-clause-count : goal.returns-clause-count
returns-clause-count c =
    let n = count_live c.self.inside.open c.self.inside.settled c.self.invariant.sound.serials in
    let v = ap (λ (s : LiveState). len s.live) c.self.view_is in
    let a = c.len.ensures in
    let b = c.len-2.ensures in
    omega (arith, n, v, a, b)

pub returns-clause-facts : goal.returns-clause-facts
returns-clause-facts c =
    subst (λ (s : LiveState). AreLive s) c.self.view_is
    (are_live c.self.inside.open c.self.inside.settled c.self.inside.places c.self.invariant.sound)

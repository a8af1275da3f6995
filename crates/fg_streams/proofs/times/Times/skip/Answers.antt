use Rattle.std.proofs.Common.{◌<◌, ◌-◌, ℕ, Option, None, ◌++◌, replicate, sym, subst, arith}
use Rattle.fg_streams.specs.declared.gaps.Gaps.{Gaps}
use Rattle.fg_streams.specs.Steps.{IsClosed}
use Rattle.fg_streams.proofs.Timing.{refilled}
use Rattle.fg_streams.proofs.times.Times.skip.Goals as goal

pub returns : goal.returns
returns c = λ times h.
    let many : 1024 < c.args.count = omega (arith, c.if-count.false) in
    let none : Option ℕ = None in
    refilled c.fill.new.self.gaps c.fill.new.self.recent times c.args.count many c.fill.ensures.filled
    (subst (λ (g : Gaps). IsClosed g (times ++ replicate (c.args.count - 1024) none)) (sym c.fill.ensures.gaps) (c.skip.ensures times (c.in_ok-drain.ensures.drained times h)))

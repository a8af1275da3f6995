use Rattle.std.proofs.Common.{◌≡◌, arith}
use Rattle.std.specs.FinMap.{len}
use Rattle.fg_core.proofs.Passing.{held_passes}
use Rattle.fg_core.proofs.skipping.skip_held.Goals as goal

pub returns-clause-passes : goal.returns-clause-passes
returns-clause-passes c =
    let old = c.args.desk.now in
    let none : len old.state.equations ≡ 0 = omega (arith, c.if-live-gt0.false, c.live.ensures) in
    held_passes old c.skip_held.new.self none c.skip_held.result c.args.time c.skip_held.ensures.plays c.skip_held.ensures.none

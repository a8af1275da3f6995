use Rattle.std.proofs.Common.{◌≡◌, arith}
use Rattle.std.specs.FinMap.{len}
use Rattle.fg_core.proofs.Passing.{flush_passes}
use Rattle.fg_core.proofs.skipping.skip_rest.Goals as goal

pub returns-clause-passes : goal.returns-clause-passes
returns-clause-passes c =
    let old = c.args.desk.now in
    let none : len old.state.equations ≡ 0 = omega (arith, c.if-live-gt0.false, c.live.ensures) in
    flush_passes old c.skip_rest.new.self none c.skip_rest.result c.skip_rest.ensures.plays c.skip_rest.ensures.none

use Rattle.std.proofs.Common.{◌≡◌, arith}
use Rattle.std.specs.FinMap.{len}
use Rattle.fg_core.proofs.Passing.{due_passes}
use Rattle.fg_core.proofs.skipping.skip_due.Goals as goal

pub returns-clause-passes : goal.returns-clause-passes
returns-clause-passes c =
    let old = c.args.desk.now in
    let none : len old.state.equations ≡ 0 = omega (arith, c.if-live-gt0.false, c.live.ensures) in
    due_passes old c.skip_due.new.self none c.skip_due.result c.args.seq c.args.ssrc c.skip_due.ensures.plays c.skip_due.ensures.none

use Rattle.std.proofs.Common.{◌*◌, ap, arith}
use Rattle.fg_report.specs.Gaps.{gaps_end}
use Rattle.fg_report.proofs.GapLemmas.{gaps_end-with}
use Rattle.fg_report_tests.proofs.tests.many_gaps.Goals as goal

pub loop-place-preserved : goal.loop-place-preserved
loop-place-preserved c =
    omega (arith, ap gaps_end c.in_ok-add.ensures.added, gaps_end-with c.loop-place.gaps (3 * c.from.result) 1)

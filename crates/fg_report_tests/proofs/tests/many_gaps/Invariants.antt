use Rattle.std.proofs.Common.{◌*◌, ◌≤◌}
use Rattle.fg_report.specs.Gaps.{gaps_end}
use Rattle.fg_report_tests.proofs.tests.many_gaps.Given as goal

abbrev pub invariant-loop-place : goal.invariant-loop-place
invariant-loop-place l = gaps_end l.gaps ≤ 3 * l.place

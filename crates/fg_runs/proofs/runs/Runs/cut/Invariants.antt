use Rattle.std.proofs.Common.{vec_len}
use Rattle.fg_report.specs.Gaps.{AreApart}
use Rattle.fg_runs.proofs.CutLemmas.{KeepsBelow}
use Rattle.fg_runs.proofs.runs.Runs.cut.Given as goal

abbrev pub invariant-loop-first : goal.invariant-loop-first
invariant-loop-first l =
    AreApart l.initial.self-inside.runs.items → KeepsBelow l.end l.initial.self-inside.runs.items l.self-inside.runs.items

abbrev pub decreases-loop-first : goal.decreases-loop-first
decreases-loop-first l = vec_len l.self-inside.runs

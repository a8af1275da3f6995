use Rattle.std.proofs.Common.{ℕ, ◌+◌, ◌<◌, ◌≤◌}
use Rattle.fg_playout.specs.Solution.{InClosure}
use Rattle.fg_prove.proofs.gaps.all_follow.Given as goal

abbrev pub invariant-loop-i : goal.invariant-loop-i
invariant-loop-i l = (position : ℕ) → l.desk.state.mark ≤ position → position < l.desk.state.mark + l.i → InClosure l.desk.state position

use Rattle.std.proofs.Common.{ℕ, ◌<◌, get_or, None, IsSome}
use Rattle.fg_core.proofs.work.Work.missing.Given as goal

abbrev pub invariant-loop-j : goal.invariant-loop-j
invariant-loop-j l = (k : ℕ) → k < l.j → IsSome (get_or l.self-inside.shares.items k None)

use Rattle.fg_closure.specs.Flags.{IsFlagged, slots_at}
use Rattle.fg_closure.proofs.Misses.{MissesBelow}
use Rattle.fg_closure.proofs.search.missing.Given as goal

abbrev pub invariant-loop-j : goal.invariant-loop-j
invariant-loop-j l = MissesBelow (IsFlagged l.first l.flags) (slots_at l.fn.line) l.j l.found

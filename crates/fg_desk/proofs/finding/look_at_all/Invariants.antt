use Rattle.fg_desk.specs.Watched.{Finds}
use Rattle.fg_desk.proofs.LookCounts.{left_to_look}
use Rattle.fg_desk.proofs.finding.look_at_all.Given as goal

abbrev pub invariant-loop-place : goal.invariant-loop-place
invariant-loop-place l = Finds l.fn.buffer l.fn.lines l.buffer l.lines l.watches l.sound

abbrev pub decreases-loop-place : goal.decreases-loop-place
decreases-loop-place l = left_to_look l.lines l.watches

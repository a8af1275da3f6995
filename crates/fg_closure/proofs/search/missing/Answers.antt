use Rattle.std.proofs.Common.{◌+◌, ◌-◌, ◌*◌, length, is_some, ap, arith}
use Rattle.fg_closure.specs.Flags.{IsFlagged, slots_at}
use Rattle.fg_closure.proofs.Misses.{at_slot, misses_several, misses_nothing, misses_one, misses_this, misses_same, flagged_not, flagged_here}
use Rattle.fg_closure.proofs.search.missing.Goals as goal
use Rattle.fg_closure.proofs.search.missing.Goals.{then-not-flags-index+in_default, else-not-flags-index}

pub returns-in-Some : goal.returns-in-Some
returns-in-Some c =
    let index = (c.args.line.base - c.args.first) + c.from.result * c.from-step.result in
    misses_several (IsFlagged c.args.first c.args.flags.now) c.args.line c.loop-j.j c.in-Some.position (c.args.first + index) c.loop-j.found
    c.requires.shape.some_offset c.loop-j-test.true
    (at_slot c.args.first (length c.args.flags.now) c.args.line c.loop-j.j c.from.result c.from-step.result c.requires c.loop-j-test.true c.from.ensures c.from-step.ensures)
    (flagged_not c.args.first index c.args.flags.now c.if-not-flags-index.true) c.in-Some.is c.loop-j.invariant

pub loop-j-preserved : goal.loop-j-preserved
loop-j-preserved c =
    let index = (c.args.line.base - c.args.first) + c.from.result * c.from-step.result in
    let at = at_slot c.args.first (length c.args.flags.now) c.args.line c.loop-j.j c.from.result c.from-step.result c.requires c.loop-j-test.true c.from.ensures c.from-step.ensures in
    elim c.if-not-flags-index.branch [
      | then-not-flags-index+in_default w ↦ rw w.found-is
          (misses_this (IsFlagged c.args.first c.args.flags.now) (slots_at c.args.line) c.loop-j.j (c.args.first + index) c.loop-j.found at
          (flagged_not c.args.first index c.args.flags.now w.if-not-flags-index.true) (ap is_some w.in_default.is) c.loop-j.invariant)
      | else-not-flags-index w ↦ rw w.found-is
          (misses_same (IsFlagged c.args.first c.args.flags.now) (slots_at c.args.line) c.loop-j.j c.loop-j.found
          (rw at (flagged_here c.args.first index c.args.flags.now w.if-not-flags-index.false)) c.loop-j.invariant)
    ]

pub returns-in-Some-found : goal.returns-in-Some-found
returns-in-Some-found c =
    misses_one (IsFlagged c.args.first c.args.flags.now) c.args.line c.loop-j.j c.in-Some-found.position c.loop-j.found (omega arith)
    c.in-Some-found.is c.loop-j.invariant

pub returns-in-None : goal.returns-in-None
returns-in-None c =
    misses_nothing (IsFlagged c.args.first c.args.flags.now) c.args.line c.loop-j.j c.loop-j.found (omega arith) c.in-None.is c.loop-j.invariant

use Rattle.fg_shape.specs.Shape.{slots_of}
use Rattle.fg_desk.specs.Contents.{known_in}
use Rattle.fg_peel.proofs.Misses.{MissesBelow}
use Rattle.fg_core.proofs.open.missing.Given as goal

abbrev pub invariant-loop-j : goal.invariant-loop-j
invariant-loop-j l =
    MissesBelow (known_in l.desk) (slots_of l.line.base l.line.shape.offset l.line.shape.na) l.j l.found

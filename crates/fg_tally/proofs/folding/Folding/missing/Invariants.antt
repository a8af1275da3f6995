use Rattle.fg_tally.specs.Counting.{Counts, missing_among}
use Rattle.fg_tally.proofs.folding.Folding.missing.Given as goal

-- What was counted are the missing ones among the slots so far.
abbrev pub invariant-loop-j : goal.invariant-loop-j
invariant-loop-j l =
    let w = l.self-inside in
    Counts (missing_among w.folded w.base w.shape.offset w.shape.na l.j) l.missing

use Rattle.fg_peel_tests.proofs.peeling.peel_after_two.Goals as goal

pub peel-requires-clause-lines : goal.peel-requires-clause-lines
peel-requires-clause-lines g c line listed =
    rw (← c.split_at.ensures.back) (c.lines_fit.ensures c.if-assert-2.false line listed)

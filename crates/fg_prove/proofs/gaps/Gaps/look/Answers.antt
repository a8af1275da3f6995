use Rattle.fg_prove.proofs.gaps.Gaps.look.Goals as goal

pub returns-then-all_follow-clause-none : goal.returns-then-all_follow-clause-none
returns-then-all_follow-clause-none c isnt missing =
    missing.3 (c.all_follow.ensures c.if-all_follow.true missing.0 missing.1 missing.2)

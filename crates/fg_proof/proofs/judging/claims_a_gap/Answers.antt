use Rattle.fg_proof.proofs.JudgingRuns.{claimed}
use Rattle.fg_proof.proofs.judging.claims_a_gap.Goals as goal

pub returns : goal.returns
returns c = claimed c.args.case.now.holes c.first_reaching-at.result c.item-first.result c.args.case.now.mark c.args.case.now.count _ _
    c.requires.apart c.item-first.ensures c.first_reaching-at.ensures.passed c.first_reaching-at.ensures.reaches c.saturating_sub.ensures c.from.ensures

use Rattle.fg_prove.proofs.gaps.Gaps.shows_a_loss.Goals as goal

pub returns-then-looked-clause-loss : goal.returns-then-looked-clause-loss
returns-then-looked-clause-loss c desk found none =
    let missing = c.is_missing.ensures desk (found c.if-looked.true) in
    (λ is. (c.in-Repaired.is, missing.0 is), λ both. missing.1 both.1)

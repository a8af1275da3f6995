use Rattle.fg_tally.proofs.folding.has_all.Goals as goal

pub returns : goal.returns
returns c = c.told-bytes

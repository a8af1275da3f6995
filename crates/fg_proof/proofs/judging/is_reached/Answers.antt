use Rattle.fg_proof.proofs.JudgingRuns.{reached}
use Rattle.fg_proof.proofs.judging.is_reached.Goals as goal

pub returns : goal.returns
returns c = reached c.args.runs.now c.args.at c.item-first.result c.args.position c.requires.order.apart c.item-first.ensures c.requires.passed c.requires.reaches

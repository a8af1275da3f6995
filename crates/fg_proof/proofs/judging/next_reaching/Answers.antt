use Rattle.std.proofs.Common.{arith}
use Rattle.std.proofs.lemmas.Option.{slice_get_past}
use Rattle.fg_proof.proofs.JudgingRuns.{behind_run}
use Rattle.fg_proof.proofs.judging.next_reaching.Goals as goal

pub loop-at-preserved : goal.loop-at-preserved
loop-at-preserved c = λ other from inside.
    behind_run c.args.runs.now _ c.item-first.result other c.requires.order.apart c.item-first.ensures (omega (arith, from)) inside

pub returns-clause-reaches : goal.returns-clause-reaches
returns-clause-reaches c = rw (slice_get_past c.args.runs.now c.loop-at.at (omega arith)) tt

use Rattle.std.proofs.Common.{arith}
use Rattle.fg_proof.proofs.JudgingRuns.{behind_run}
use Rattle.fg_proof.proofs.judging.first_reaching.Goals as goal

pub loop-low-preserved-then-first-length : goal.loop-low-preserved-then-first-length
loop-low-preserved-then-first-length c = record {
  rising = omega arith;
  inside = c.loop-low.invariant.inside;
  passed = λ other from inside.
      behind_run c.args.runs.now _ c.item-first.result other c.requires.apart c.item-first.ensures (omega (arith, from)) inside;
  reaches = c.loop-low.invariant.reaches;
}

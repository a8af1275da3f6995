use Rattle.std.proofs.Common.{◌≡◌, ◌+◌, ◌-◌, true, cond}
use Rattle.fg_thin.specs.Taking.{KeepsWay}
use Rattle.fg_thin.proofs.thinned.taking.fill.Given as goal

abbrev pub invariant-loop-taking : goal.invariant-loop-taking
invariant-loop-taking g l = record {
  keeps : KeepsWay l.fn.taking (g.S.Source.left l.fn.from) l.taking (g.S.Source.left l.from);
  stays : l.fn.taking.told ≡ true → l.taking.told ≡ true;
  faults : g.S.Source.faults l.from ≡ g.S.Source.faults l.fn.from;
  fixed : g.S.Source.fixed l.from ≡ g.S.Source.fixed l.fn.from;
}

abbrev pub decreases-loop-taking : goal.decreases-loop-taking
decreases-loop-taking g l = (l.taking.reader.max - l.taking.reader.place) + cond l.taking.told 0 1

use Rattle.std.proofs.Common.{◌≡◌, ◌≤◌, ◌-◌, get_or}
use Rattle.fg_survey.specs.Matrix.{commonest}
use Rattle.fg_survey.proofs.tally.greatest.Given as goal

abbrev pub invariant-loop-place : goal.invariant-loop-place
invariant-loop-place l = record {
  is : l.best ≡ commonest (λ place. get_or l.counts place 0) l.place;
  within : l.best ≤ l.place - 1;
}

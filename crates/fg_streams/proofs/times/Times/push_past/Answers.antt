use Rattle.std.proofs.Common.{List, Option, ℕ, ◌∷◌, [], ◌++◌, sym, subst}
use Rattle.fg_streams.specs.Steps.{AreTimes}
use Rattle.fg_streams.proofs.Timing.{pushed_past}
use Rattle.fg_streams.proofs.times.Times.push_past.Goals as goal

pub returns : goal.returns
returns c = λ times h.
    let recent = c.args.self.now.recent in
    subst (λ (r : List (Option ℕ)). AreTimes c.pass.new.self r (times ++ c.args.time ∷ [])) (sym c.push.ensures)
    (pushed_past c.args.self.now.gaps c.pass.new.self recent c.pop.new.self times c.unwrap-oldest.result c.args.time (c.pop.ensures.some c.unwrap-oldest.result c.unwrap-oldest.ensures) c.requires.full c.in_ok-pass.ensures h)

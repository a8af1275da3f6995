use Rattle.std.proofs.Common.{◌<◌, List, Option, ℕ, ◌∷◌, [], ◌++◌, length, sym, subst, arith}
use Rattle.fg_streams.specs.Steps.{AreTimes}
use Rattle.fg_streams.proofs.Timing.{pushed}
use Rattle.fg_streams.proofs.times.Times.push.Goals as goal

pub returns : goal.returns
returns c = λ times h.
    let recent = c.args.self.now.recent in
    let few = h.few in
    let room : length recent < 1024 = omega (arith, few, c.len.ensures, c.if-len-eq-RECENT.false) in
    subst (λ (r : List (Option ℕ)). AreTimes c.args.self.now.gaps r (times ++ c.args.time ∷ [])) (sym c.push.ensures) (pushed c.args.self.now.gaps recent times c.args.time room h)

use Rattle.std.proofs.Common.{Option, List, ℕ, subst}
use Rattle.fg_io.proofs.FaultLemmas.{on_err}
use Rattle.fg_walk.proofs.walking.walk_on.Goals as goal

pub step-requires : goal.step-requires
step-requires g c = (c.requires.0, c.requires.1, c.loop-ending.invariant.underway c.requires.0 c.requires.1 c.requires.2)

pub returns-in_err-ending-clause-part : goal.returns-in_err-ending-clause-part
returns-in_err-ending-clause-part g c =
    let left = g.S.Source.left c.step.new.input in
    let after = g.K.Sink.written c.step.new.out in
    let part : (first before : Option (List ℕ))
    → g.W.Walking.is_underway c.args.walking.now c.args.reader.now first (g.S.Source.left c.args.input.now) before (g.K.Sink.written c.args.out.now)
    → g.W.Walking.part (g.W.Walking.given c.args.walking.now c.args.reader.now) first left before after = λ first before h.
    subst (λ given. g.W.Walking.part given first left before after) c.loop-ending.invariant.given (c.in_err-ending.ensures.part first before (c.loop-ending.invariant.underway first before h)) in
    on_err _ _ part

use Rattle.std.proofs.Common.{rules}
use Rattle.fg_pipe.proofs.Piped.{all_rest}
use Rattle.fg_pipe.proofs.ends.give_back.Goals as goal

pub loop-item-preserved-in-Some : goal.loop-item-preserved-in-Some
loop-item-preserved-in-Some g c =
    (all_rest g.T.Passes.blank c.in-Some.item c.next.new.self.rest.items _ c.in-Some.ensures.steps.0 c.loop-item.invariant.0, search rules)

pub loop-item-preserved : goal.loop-item-preserved
loop-item-preserved g c =
    (all_rest g.T.Passes.blank c.in-Some.item c.next.new.self.rest.items _ c.in-Some.ensures.steps.0 c.loop-item.invariant.0, search rules)

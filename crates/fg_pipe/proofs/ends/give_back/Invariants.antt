use Rattle.std.proofs.Common.{All}
use Rattle.rtrb.specs.Ring.{SameProducer}
use Rattle.fg_pipe.proofs.ends.give_back.Given as goal

abbrev pub invariant-loop-item : goal.invariant-loop-item
invariant-loop-item g l = All g.T.Passes.blank l.item-iterator.rest.items × SameProducer l.initial.to l.to

use Rattle.rtrb.specs.Ring.{sent, received, SameProducer, SameConsumer}
use Rattle.fg_pipe.proofs.loops.make_all.Given as goal

abbrev pub invariant-loop : goal.invariant-loop
invariant-loop g l =
    (goal.iterator-loop g).can_next l.iterator' × (goal.iterator-loop g).is_finite l.iterator'
    × SameConsumer l.initial.taking.full l.taking.full × SameProducer l.initial.making.full l.making.full
    × ((first : _) → g.M.Maker.turned first (received l.initial.taking.full) (sent l.initial.making.full) l.initial.maker
    → g.M.Maker.turned first (received l.taking.full) (sent l.making.full) l.maker)

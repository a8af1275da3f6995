use Rattle.rtrb.specs.Ring.{received, SameConsumer}
use Rattle.fg_pipe.proofs.loops.store_all.Given as goal

abbrev pub invariant-loop : goal.invariant-loop
invariant-loop g l =
    (goal.iterator-loop g).can_next l.iterator' × (goal.iterator-loop g).is_finite l.iterator'
    × SameConsumer l.initial.ends.full l.ends.full
    × ((first : _) (place : _)
    → g.S.Storer.stored first place (received l.initial.ends.full) l.initial.storer l.initial.to
    → g.S.Storer.stored first place (received l.ends.full) l.storer l.to)

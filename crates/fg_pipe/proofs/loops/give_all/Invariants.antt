use Rattle.rtrb.specs.Ring.{sent, SameProducer}
use Rattle.fg_pipe.proofs.loops.give_all.Given as goal

abbrev pub invariant-loop : goal.invariant-loop
invariant-loop g l =
    (goal.iterator-loop g).can_next l.iterator' × (goal.iterator-loop g).is_finite l.iterator'
    × SameProducer l.initial.ends.full l.ends.full
    × ((first : _) (source : _) → g.F.Giver.gave first source (sent l.initial.ends.full) l.initial.giver l.initial.from
    → g.F.Giver.gave first source (sent l.ends.full) l.giver l.from)

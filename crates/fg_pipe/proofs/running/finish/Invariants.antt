use Rattle.rtrb.specs.Ring.{sent, received, IsPair}
use Rattle.fg_pipe.proofs.running.finish.Given as goal

abbrev pub invariant-loop : goal.invariant-loop
invariant-loop g l =
    (goal.iterator-loop g).can_next l.iterator' × (goal.iterator-loop g).is_finite l.iterator'
    × IsPair l.ends.giving.full l.ends.taking.full × IsPair l.ends.making.full l.ends.storing.full
    × ((first : _) (source : _)
    → g.F.Giver.gave first source (sent l.initial.ends.giving.full) l.initial.giver l.initial.from
    → g.F.Giver.gave first source (sent l.ends.giving.full) l.giver l.from)
    × ((first : _) → g.M.Maker.turned first (received l.initial.ends.taking.full) (sent l.initial.ends.making.full) l.initial.maker
    → g.M.Maker.turned first (received l.ends.taking.full) (sent l.ends.making.full) l.maker)
    × ((first : _) (place : _)
    → g.S.Storer.stored first place (received l.initial.ends.storing.full) l.initial.storer l.initial.to
    → g.S.Storer.stored first place (received l.ends.storing.full) l.storer l.to)

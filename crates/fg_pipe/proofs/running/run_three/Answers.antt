use Rattle.std.proofs.Common.{[], subst, sym}
use Rattle.rtrb.specs.Ring.{sent}
use Rattle.fg_pipe.proofs.running.run_three.Goals as goal

pub finish-requires-clause-gave : goal.finish-requires-clause-gave
finish-requires-clause-gave g c = (
  c.args.giver.now,
  c.args.from.now,
  c.run_beside.ensures.gave c.args.giver.now c.args.from.now
      (subst (λ given. g.F.Giver.gave c.args.giver.now c.args.from.now given c.args.giver.now c.args.from.now)
      (sym c.in_ok-ends.ensures.none_given.0) c.requires.gave),
)

pub finish-requires-clause-turned : goal.finish-requires-clause-turned
finish-requires-clause-turned g c = (
  c.args.maker.now,
  c.run_beside.ensures.turned c.args.maker.now
      (subst (λ took. g.M.Maker.turned c.args.maker.now took (sent c.in_ok-ends.ends.making.full) c.args.maker.now)
      (sym c.in_ok-ends.ensures.none_given.1)
      (subst (λ made. g.M.Maker.turned c.args.maker.now [] made c.args.maker.now) (sym c.in_ok-ends.ensures.none_made.0)
      c.requires.turned)),
)

pub finish-requires-clause-stored : goal.finish-requires-clause-stored
finish-requires-clause-stored g c = (
  c.args.storer.now,
  c.args.to.now,
  c.run_beside.ensures.stored c.args.storer.now c.args.to.now
      (subst (λ stored. g.S.Storer.stored c.args.storer.now c.args.to.now stored c.args.storer.now c.args.to.now)
      (sym c.in_ok-ends.ensures.none_made.1) c.requires.stored),
)

pub returns-clause-piped : goal.returns-clause-piped
returns-clause-piped g c =
    c.finish.ensures.piped c.args.giver.now c.args.from.now c.args.maker.now c.args.storer.now c.args.to.now
    (c.run_beside.ensures.gave c.args.giver.now c.args.from.now
    (subst (λ given. g.F.Giver.gave c.args.giver.now c.args.from.now given c.args.giver.now c.args.from.now)
    (sym c.in_ok-ends.ensures.none_given.0) c.requires.gave))
    (c.run_beside.ensures.turned c.args.maker.now
    (subst (λ took. g.M.Maker.turned c.args.maker.now took (sent c.in_ok-ends.ends.making.full) c.args.maker.now)
    (sym c.in_ok-ends.ensures.none_given.1)
    (subst (λ made. g.M.Maker.turned c.args.maker.now [] made c.args.maker.now) (sym c.in_ok-ends.ensures.none_made.0)
    c.requires.turned)))
    (c.run_beside.ensures.stored c.args.storer.now c.args.to.now
    (subst (λ stored. g.S.Storer.stored c.args.storer.now c.args.to.now stored c.args.storer.now c.args.to.now)
    (sym c.in_ok-ends.ensures.none_made.1) c.requires.stored))

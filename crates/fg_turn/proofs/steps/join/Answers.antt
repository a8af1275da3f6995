use Rattle.std.proofs.Common.{rules}
use Rattle.fg_turn.proofs.Keeping.{joins, counts_after}
use Rattle.fg_turn.proofs.steps.join.Goals as goal

pub join_seat-requires : goal.join_seat-requires
join_seat-requires g c = (
  search rules,
  search rules,
  search rules,
  search rules,
  joins g.S.Guarded.owner g.S.Guarded.grows _ _ _ _ _ c.requires.owner.0 c.requires.owner.1 c.requires.pass.0 g.S.Guarded.untold,
)

pub load-requires : goal.load-requires
load-requires g c = (
  search rules,
  search rules,
  counts_after g.S.Guarded.owner g.S.Guarded.grows _ _ _ c.args.owner.now.me.0 _ _ c.join_seat.ensures.2 c.requires.owner.0 c.requires.owner.1,
)

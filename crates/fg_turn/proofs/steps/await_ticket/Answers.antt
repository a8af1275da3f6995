use Rattle.std.proofs.Common.{rules}
use Rattle.fg_turn.proofs.Keeping.{looks_again}
use Rattle.fg_turn.proofs.steps.await_ticket.Goals as goal

pub load-serving-requires : goal.load-serving-requires
load-serving-requires g c = (
  search rules,
  search rules,
  looks_again g.S.Guarded.owner g.S.Guarded.grows _ _ _ c.args.seat.now.me _ c.requires.waits.0 c.loop.invariant.1 c.requires.waits.1,
)

use Rattle.std.proofs.Common.{rules}
use Rattle.fg_turn.proofs.Keeping.{holds_state}
use Rattle.fg_turn.proofs.steps.take.Goals as goal

pub exchange-requires : goal.exchange-requires
exchange-requires g c = (search rules, holds_state g.S.Guarded.owner g.S.Guarded.grows c.draw-ticket.new.seat.me c.await_ticket.new.seat.me c.await_ticket.ensures.has)

use Rattle.std.proofs.Common.{◌<◌, arith, refl}
use Rattle.std.proofs.lemmas.Result.{on_ok_weaker}
use Rattle.fg_streams.proofs.Closing.{ended_received, ended_burst, room_left}
use Rattle.fg_streams.proofs.gaps.Gaps.end_burst_after.Goals as goal

pub returns-then-self-eq0-clause-ended : goal.returns-then-self-eq0-clause-ended
returns-then-self-eq0-clause-ended c = λ times h. ended_received c.args.self.now times c.if-self-eq0.true h

pub add-requires-clause-room : goal.add-requires-clause-room
add-requires-clause-room c = room_left c.args.self.now c.requires.closed.0 c.requires.closed.1 c.requires.closed.2

pub returns-clause-ended : goal.returns-clause-ended
returns-clause-ended c = on_ok_weaker c.put.result (λ longest times h.
    let some : 0 < c.args.self.now.lost = omega (arith, c.if-self-eq0.false) in
    ended_burst c.args.self.now _ times c.args.at _ c.requires.at some refl c.add.ensures longest h) c.put.ensures

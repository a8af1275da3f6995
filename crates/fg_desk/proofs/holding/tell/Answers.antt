use Rattle.fg_desk.proofs.Times.{tells}
use Rattle.fg_desk.proofs.holding.tell.Goals as goal

pub returns : goal.returns
returns c =
    tells c.args.waiting.now c.args.time c.args.mark c.pass_time.result c.pass_time.new.self c.requires c.pass_time.ensures.hold
    c.pass_time.ensures.clock c.pass_time.ensures.since c.pass_time.ensures.waits c.pass_time.ensures.some c.pass_time.ensures.none

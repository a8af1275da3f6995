use Rattle.std.proofs.Common.{sym, subst}
use Rattle.fg_core.specs.Board.{equation_with}
use Rattle.fg_tally.specs.Tally.{IsPartOfSum}
use Rattle.fg_tally.proofs.Summing.{begins_live, begins_gone, part_of_nothing}
use Rattle.fg_tally.proofs.tally.begin.Goals as goal

pub returns-in-Live-clause-begins : goal.returns-in-Live-clause-begins
returns-in-Live-clause-begins g c =
    begins_live c.ask.new.pass.entered c.args.key c.in-Live.base c.in-Live.shape c.in-Live.parity c.new.result
    c.in-Live.ensures.equation c.new.ensures

pub returns-in-Live-clause-part : goal.returns-in-Live-clause-part
returns-in-Live-clause-part g c =
    subst (IsPartOfSum c.ask.new.pass) (sym c.new.ensures)
    (part_of_nothing c.ask.new.pass c.args.key (equation_with c.in-Live.base c.in-Live.shape c.in-Live.parity)
    c.in-Live.ensures.readable.0 c.in-Live.ensures.readable.1 c.has_room.ensures c.in-Live.ensures.told)

pub returns-in-Gone-clause-begins : goal.returns-in-Gone-clause-begins
returns-in-Gone-clause-begins g c =
    begins_gone c.ask.new.pass.entered c.args.key c.in-Gone.mark c.in-Gone.epoch c.in-Gone.ensures.equation

use Rattle.std.proofs.Common.{refl}
use Rattle.fg_desk.proofs.ClosedLines.{survive_as_watched, watched_after}
use Rattle.fg_desk.proofs.Survivors.{settled_are_based, keeps}
use Rattle.fg_desk.proofs.storage.close_repaired.Goals as goal

pub retire-requires-clause-based : goal.retire-requires-clause-based
retire-requires-clause-based c =
    settled_are_based c.args.count c.args.buffer.now c.advance.new.self c.args.lines.now c.args.lines.now c.requires.within
    c.advance.ensures refl c.requires.settled

pub retire-requires-clause-watched : goal.retire-requires-clause-watched
retire-requires-clause-watched c =
    survive_as_watched c.args.count c.args.buffer.now c.advance.new.self c.advance.ensures c.args.lines.now c.requires.within
    c.args.watches.now c.requires.watched c.requires.idle

pub returns-clause-lines : goal.returns-clause-lines
returns-clause-lines c =
    keeps c.args.count c.args.buffer.now c.advance.new.self c.args.lines.now c.args.lines.now c.requires.within
    c.advance.ensures refl c.requires.settled c.retire.new.self c.retire.ensures.retires

pub returns-clause-watched : goal.returns-clause-watched
returns-clause-watched c =
    watched_after c.args.count c.args.buffer.now c.advance.new.self c.advance.ensures c.args.lines.now c.requires.within
    c.args.watches.now c.requires.watched c.requires.idle c.retire.new.watches c.retire.ensures.watches c.retire.new.self
    c.retire.ensures.retires

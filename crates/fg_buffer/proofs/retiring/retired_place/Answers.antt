use Rattle.std.proofs.Common.{sym}
use Rattle.fg_buffer.proofs.retiring.retired_place.Goals as goal

pub survives-requires-clause-shape : goal.survives-requires-clause-shape
survives-requires-clause-shape c = (c.requires.within c.args.key c.in-Some.line.now (sym c.in-Some.ensures)).shape

pub survives-requires-clause-base : goal.survives-requires-clause-base
survives-requires-clause-base c = (c.requires.within c.args.key c.in-Some.line.now (sym c.in-Some.ensures)).base

pub survives-requires-clause-based : goal.survives-requires-clause-based
survives-requires-clause-based c =
    λ based. c.requires.based based c.in-Some.line.now (c.args.key, sym c.in-Some.ensures)

-- The size in the header tells where the next record ends.
use Rattle.fg_trace.proofs.Next.{next_is_held}
use Rattle.fg_trace.proofs.reader.Reader.is_next_held.Goals as goal

pub returns-in-Some : goal.returns-in-Some
returns-in-Some c =
    let inside = c.self.inside in
    let header = c.in-Some.header in
    next_is_held c.args.self.now inside.input inside.answered inside.started inside.kept c.held.result.now c.has.result header.time header.port header.size c.from-size.result
    c.self.view_is c.self.invariant.answered_held c.if-is_some.ensures c.held.ensures.value c.in-Some.ensures.found c.from-size.ensures c.has.ensures

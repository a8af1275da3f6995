use Rattle.std.proofs.Common.{sym, subst, not}
use Rattle.fg_peel.specs.Slots.{equation_of}
use Rattle.fg_peel.specs.Equation.{IsComplete}
use Rattle.slab.specs.Slab.{get}
use Rattle.fg_buffer.specs.PlayoutBuffer.{buffer_words}
use Rattle.fg_buffer.specs.LiveInside.{IsCompleteAs}
use Rattle.fg_buffer.proofs.LiveViews.{one_value}
use Rattle.fg_buffer.proofs.LiveCalls.{stays_of}
use Rattle.fg_buffer.proofs.live_equations.goes.Goals as goal

pub is_complete-requires-clause-shape : goal.is_complete-requires-clause-shape
is_complete-requires-clause-shape c = (c.requires c.args.key c.in-Some.line.now (sym c.in-Some.ensures)).shape

pub is_complete-requires-clause-base : goal.is_complete-requires-clause-base
is_complete-requires-clause-base c = (c.requires c.args.key c.in-Some.line.now (sym c.in-Some.ensures)).base

pub returns-in-Some-clause-stays : goal.returns-in-Some-clause-stays
returns-in-Some-clause-stays c = λ unlike line is.
    let words = buffer_words c.args.buffer.now in
    let same = one_value (get c.args.lines.now c.args.key) c.in-Some.line.now line (sym c.in-Some.ensures) is in
    subst (IsCompleteAs (not c.args.complete) words) same
    (stays_of c.is_complete.result c.args.complete (IsComplete words (equation_of c.in-Some.line.now)) c.is_complete.ensures unlike)

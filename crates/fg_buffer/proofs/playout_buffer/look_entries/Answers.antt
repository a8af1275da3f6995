use Rattle.fg_buffer.proofs.PeeledBuffer.{line_placed, placed_looks}
use Rattle.fg_buffer.proofs.playout_buffer.look_entries.Goals as goal

pub look_placed-requires-clause-line : goal.look_placed-requires-clause-line
look_placed-requires-clause-line c =
    line_placed c.args.mark c.saturating_sub-start.result c.saturating_sub-below.result c.saturating_sub-start.ensures
    c.saturating_sub-below.ensures c.args.entries.now c.args.line.now c.requires.entries c.requires.within

pub returns : goal.returns
returns c =
    placed_looks c.args.mark c.saturating_sub-start.result c.saturating_sub-below.result c.saturating_sub-start.ensures
    c.saturating_sub-below.ensures c.args.entries.now c.args.line.now c.requires.entries c.requires.within c.look_placed.new.entries
    c.look_placed.result c.look_placed.ensures.before c.look_placed.ensures.fills c.look_placed.ensures.look

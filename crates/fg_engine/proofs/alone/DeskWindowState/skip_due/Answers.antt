use Rattle.std.proofs.Common.{arith}
use Rattle.fg_playout.specs.Empty.{empty_plays}
use Rattle.fg_engine.proofs.Skipping.{due_moves, skipped_on}
use Rattle.fg_engine.proofs.alone.DeskWindowState.skip_due.Goals as goal

pub overflow_sub-result : goal.overflow_sub-result
overflow_sub-result c =
    let old = c.args.self.now.state in
    let new = c.skip_due-windows.new.self.state in
    let windows = c.skip_due-windows.result in
    let mark = skipped_on old new windows (due_moves old new c.args.seq c.args.ssrc (empty_plays windows old.playout.window old.mark) c.skip_due-windows.ensures.plays) in
    omega (arith, mark, c.mark-mark.ensures, c.mark.ensures)

pub returns-clause-positions : goal.returns-clause-positions
returns-clause-positions c =
    let old = c.args.self.now.state in
    let new = c.skip_due-windows.new.self.state in
    let windows = c.skip_due-windows.result in
    let mark = skipped_on old new windows (due_moves old new c.args.seq c.args.ssrc (empty_plays windows old.playout.window old.mark) c.skip_due-windows.ensures.plays) in
    omega (arith, mark, c.mark-mark.ensures, c.mark.ensures)

use Rattle.std.proofs.Common.{arith}
use Rattle.fg_playout.specs.Empty.{empty_plays}
use Rattle.fg_engine.proofs.Skipping.{flush_moves, skipped_on}
use Rattle.fg_engine.proofs.alone.DeskWindowState.skip_rest.Goals as goal

pub overflow_sub-result : goal.overflow_sub-result
overflow_sub-result c =
    let old = c.args.self.now.state in
    let new = c.skip_rest-windows.new.self.state in
    let windows = c.skip_rest-windows.result in
    let mark = skipped_on old new windows (flush_moves old new (empty_plays windows old.playout.window old.mark) c.skip_rest-windows.ensures.plays) in
    omega (arith, mark, c.mark-mark.ensures, c.mark.ensures)

pub returns-clause-positions : goal.returns-clause-positions
returns-clause-positions c =
    let old = c.args.self.now.state in
    let new = c.skip_rest-windows.new.self.state in
    let windows = c.skip_rest-windows.result in
    let mark = skipped_on old new windows (flush_moves old new (empty_plays windows old.playout.window old.mark) c.skip_rest-windows.ensures.plays) in
    omega (arith, mark, c.mark-mark.ensures, c.mark.ensures)

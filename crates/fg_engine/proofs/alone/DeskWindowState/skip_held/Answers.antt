use Rattle.std.proofs.Common.{arith}
use Rattle.fg_playout.specs.Empty.{empty_plays}
use Rattle.fg_engine.proofs.Skipping.{held_moves, skipped_on}
use Rattle.fg_engine.proofs.alone.DeskWindowState.skip_held.Goals as goal

pub overflow_sub-result : goal.overflow_sub-result
overflow_sub-result c =
    let old = c.args.self.now.state in
    let new = c.skip_held-windows.new.self.state in
    let windows = c.skip_held-windows.result in
    let mark = skipped_on old new windows (held_moves old new c.args.time (empty_plays windows old.playout.window old.mark) c.skip_held-windows.ensures.plays) in
    omega (arith, mark, c.mark-mark.ensures, c.mark.ensures)

pub returns-clause-positions : goal.returns-clause-positions
returns-clause-positions c =
    let old = c.args.self.now.state in
    let new = c.skip_held-windows.new.self.state in
    let windows = c.skip_held-windows.result in
    let mark = skipped_on old new windows (held_moves old new c.args.time (empty_plays windows old.playout.window old.mark) c.skip_held-windows.ensures.plays) in
    omega (arith, mark, c.mark-mark.ensures, c.mark.ensures)

use Rattle.std.proofs.Common.{arith}
use Rattle.fg_playout.specs.Empty.{empty_plays}
use Rattle.fg_board.specs.Actors.{desk_of}
use Rattle.fg_engine.proofs.Skipping.{due_moves, skipped_on}
use Rattle.fg_repair.proofs.crewed.board_window.BoardWindowWindowState.skip_due.Goals as goal

pub overflow_sub-positions : goal.overflow_sub-positions
overflow_sub-positions g c =
    let old = desk_of c.args.self.now.admitter in
    let new = desk_of c.skip_due-windows.new.self in
    let windows = c.skip_due-windows.result in
    let mark = skipped_on old new windows (due_moves old new c.args.seq c.args.ssrc (empty_plays windows old.playout.window old.mark) c.skip_due-windows.ensures.plays) in
    omega (arith, mark, c.mark-mark.ensures, c.mark.ensures)

pub returns-clause-positions : goal.returns-clause-positions
returns-clause-positions g c =
    let old = desk_of c.args.self.now.admitter in
    let new = desk_of c.skip_due-windows.new.self in
    let windows = c.skip_due-windows.result in
    let mark = skipped_on old new windows (due_moves old new c.args.seq c.args.ssrc (empty_plays windows old.playout.window old.mark) c.skip_due-windows.ensures.plays) in
    omega (arith, mark, c.mark-mark.ensures, c.mark.ensures)

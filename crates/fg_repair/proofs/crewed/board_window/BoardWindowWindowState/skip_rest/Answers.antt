use Rattle.std.proofs.Common.{arith}
use Rattle.fg_playout.specs.Empty.{empty_plays}
use Rattle.fg_board.specs.Actors.{desk_of}
use Rattle.fg_engine.proofs.Skipping.{flush_moves, skipped_on}
use Rattle.fg_repair.proofs.crewed.board_window.BoardWindowWindowState.skip_rest.Goals as goal

pub overflow_sub-positions : goal.overflow_sub-positions
overflow_sub-positions g c =
    let old = desk_of c.args.self.now.admitter in
    let new = desk_of c.skip_rest-windows.new.self in
    let windows = c.skip_rest-windows.result in
    let mark = skipped_on old new windows (flush_moves old new (empty_plays windows old.playout.window old.mark) c.skip_rest-windows.ensures.plays) in
    omega (arith, mark, c.mark-mark.ensures, c.mark.ensures)

pub returns-clause-positions : goal.returns-clause-positions
returns-clause-positions g c =
    let old = desk_of c.args.self.now.admitter in
    let new = desk_of c.skip_rest-windows.new.self in
    let windows = c.skip_rest-windows.result in
    let mark = skipped_on old new windows (flush_moves old new (empty_plays windows old.playout.window old.mark) c.skip_rest-windows.ensures.plays) in
    omega (arith, mark, c.mark-mark.ensures, c.mark.ensures)

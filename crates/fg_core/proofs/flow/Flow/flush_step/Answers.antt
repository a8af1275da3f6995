use Rattle.std.proofs.Common.{◌≡◌, length, option_map}
use Rattle.fg_playout.specs.State.{State}
use Rattle.fg_playout.specs.Play.{Flushes}
use Rattle.fg_core.specs.Board.{BoardState, FlushesOn}
use Rattle.fg_core.specs.Core.{play_of}
use Rattle.fg_core.proofs.Calling.{flushes_on, step_on_board}
use Rattle.fg_core.proofs.Holding.{desk_of, notes_of}
use Rattle.fg_core.proofs.flow.Flow.flush_step.Goals as goal

pub returns-clause-flushes : goal.returns-clause-flushes
returns-clause-flushes c =
    let held = c.self.inside.held.value in
    let play = option_map (λ played. play_of played c.flush_step.new.tray.shown) c.flush_step.result in
    step_on_board (λ (old new : State). Flushes old play new) (λ (old new : BoardState). FlushesOn old play new)
    (λ played. played.count ≡ length c.flush_step.new.tray.shown) (c.flush_step.new.tray ≡ c.args.tray.now) c.flush_step.result
    held.desk _ c.flush_step.new.self held.notes _ c.args.self.now
    (flushes_on held.desk c.flush_step.new.self held.notes c.self.invariant c.flush_step.result c.flush_step.new.tray.shown)
    (desk_of c.deref_mut.ensures.value) (notes_of c.deref_mut.ensures.value) c.self.view_is
    c.flush_step.ensures.flushes c.flush_step.ensures.some c.flush_step.ensures.none

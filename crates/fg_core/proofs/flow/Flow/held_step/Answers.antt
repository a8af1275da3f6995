use Rattle.std.proofs.Common.{◌≡◌, length, option_map}
use Rattle.fg_playout.specs.State.{State}
use Rattle.fg_playout.specs.Held.{IsHeldStep}
use Rattle.fg_core.specs.Board.{BoardState, PlaysHeldOn}
use Rattle.fg_core.specs.Core.{play_of}
use Rattle.fg_core.proofs.Calling.{plays_held_on, step_on_board}
use Rattle.fg_core.proofs.Holding.{desk_of, notes_of}
use Rattle.fg_core.proofs.flow.Flow.held_step.Goals as goal

pub returns-clause-held : goal.returns-clause-held
returns-clause-held c =
    let held = c.self.inside.held.value in
    let time = c.args.time in
    let shown = c.held_step.new.tray.shown in
    let play = option_map (λ played. play_of played shown) c.held_step.result in
    step_on_board (λ (old new : State). IsHeldStep old time play new) (λ (old new : BoardState). PlaysHeldOn old time play new)
    (λ played. played.count ≡ length shown) (c.held_step.new.tray ≡ c.args.tray.now) c.held_step.result held.desk _
    c.held_step.new.self held.notes _ c.args.self.now
    (plays_held_on held.desk c.held_step.new.self held.notes c.self.invariant time c.held_step.result shown)
    (desk_of c.deref_mut.ensures.value) (notes_of c.deref_mut.ensures.value) c.self.view_is
    c.held_step.ensures.held c.held_step.ensures.some c.held_step.ensures.none

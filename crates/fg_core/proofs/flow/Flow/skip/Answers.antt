use Rattle.std.proofs.Common.{◌≤◌, ◌<◌, ◌^◌, ◌+◌, ap, arith}
use Rattle.fg_core.proofs.Calling.{pass_on_board, pass_keeps}
use Rattle.fg_core.proofs.Holding.{desk_of, notes_of}
use Rattle.fg_core.specs.Board.{BoardState}
use Rattle.fg_core.specs.Skipping.{time_of}
use Rattle.fg_core.specs.declared.flow.Held.{Held}
use Rattle.fg_core.proofs.Passing.{calls_are, count_within}
use Rattle.fg_core.proofs.flow.Flow.skip.Goals as goal

pub returns-clause-passes : goal.returns-clause-passes
returns-clause-passes c =
    let held = c.self.inside.held.value in
    let count = c.pass_windows-count.result in
    let new = c.pass_windows-count.new.desk in
    pass_on_board (time_of c.args.which) count held.desk _ new held.notes _ c.args.self.now c.self.invariant (desk_of c.deref_mut.ensures.value)
    (notes_of c.deref_mut.ensures.value) c.self.view_is c.pass_windows-count.ensures.passes c.pass_windows-count.ensures.none
    c.pass_windows-count.ensures.changes

pub invariant_of-self : goal.invariant_of-self
invariant_of-self c =
    let held = c.self.inside.held.value in
    pass_keeps (time_of c.args.which) c.pass_windows-count.result held.desk _ c.pass_windows-count.new.desk held.notes _ c.self.invariant
    (desk_of c.deref_mut.ensures.value) (notes_of c.deref_mut.ensures.value) c.pass_windows-count.ensures.passes c.pass_windows-count.ensures.none
    c.pass_windows-count.ensures.changes

pub returns-clause-calls : goal.returns-clause-calls
returns-clause-calls c =
    calls_are (time_of c.args.which) c.pass_windows-count.result c.args.self.now.desk.state c.pass_windows-count.new.desk.state (returns-clause-passes c).state

pub returns-clause-limit : goal.returns-clause-limit
returns-clause-limit c =
    let old = c.args.self.now.desk.state in
    let new = c.pass_windows-count.new.desk.state in
    let before = ap (λ (held : Held). held.desk.state.playout.window) c.deref.ensures in
    let seen = ap (λ (board : BoardState). board.desk.state.playout.window) c.self.view_is in
    let some : 1 ≤ old.playout.window = omega (arith, before, seen, c.window-window.ensures.value, c.window-window.ensures.some) in
    let after = ap (λ (held : Held). held.desk.state.mark) c.deref-2.ensures in
    let below : new.mark < 2 ^ 61 + 200 = omega (arith, after, c.depth-depth.ensures.mark) in
    let within = count_within (time_of c.args.which) c.pass_windows-count.result (2 ^ 61 + 200) old new some below (returns-clause-passes c).state in
    omega (arith, within)

use Rattle.fg_core.specs.Core.{Tells}
use Rattle.fg_core.specs.Codes.{GrowsFrom}
use Rattle.fg_core.specs.Steps.{IsStep}
use Rattle.std.specs.Prelude.{None}
use Rattle.fg_board.specs.Deeds.{event_of, told_of, told_by, Follows}
use Rattle.fg_board.proofs.OneTurn.{some_and_weaker, some_and_of, event_steps, event_tells, told_grows}
use Rattle.fg_board.proofs.turns.settle.Goals as goal

pub tell-requires-clause-step : goal.tell-requires-clause-step
tell-requires-clause-step c =
    let event = event_of c.args.deed in
    some_and_weaker c.args.seat.now.entered (λ old. Follows c.args.seat.now event old c.args.flow)
    (λ old. IsStep None old c.args.flow)
    (event_steps c.events_keep_owned.ensures c.events_keep_told.ensures c.args.seat.now event c.args.flow) c.requires.follows

pub tell-requires-clause-grows : goal.tell-requires-clause-grows
tell-requires-clause-grows c =
    let event = event_of c.args.deed in
    some_and_of c.args.seat.now.entered (λ old. Follows c.args.seat.now event old c.args.flow)
    (GrowsFrom (told_by c.args.flow event) c.args.flow)
    (λ old _ follows. told_grows c.answers_hold.ensures c.codes_are_read_back.ensures.told c.args.seat.now event c.args.flow old follows)
    c.requires.follows

pub returns-clause-tells : goal.returns-clause-tells
returns-clause-tells c =
    let event = event_of c.args.deed in
    some_and_of c.args.seat.now.entered (λ old. Follows c.args.seat.now event old c.args.flow)
    (Tells c.args.flow event (told_of c.args.flow event))
    (λ old _ follows. event_tells event old c.args.flow follows.does)
    c.requires.follows

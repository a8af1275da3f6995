use Rattle.std.proofs.Common.{List, ◌++◌, map, Option, None, ap, subst, sym, ◌∙◌}
use Rattle.std.specs.Prelude.{IsSomeAnd}
use Rattle.fg_turn.specs.Standing.{Standing}
use Rattle.fg_core.specs.Board.{BoardState, look_of, TellsEquation}
use Rattle.fg_core.specs.Codes.{Entry, told_from}
use Rattle.fg_core.specs.Core.{look}
use Rattle.fg_core.specs.Views.{WasAnswered}
use Rattle.fg_board.specs.Deeds.{told_by}
use Rattle.fg_core.specs.declared.fate.Asked.{Asked}
use Rattle.fg_board.proofs.OneTurn.{turn_taken, answer_told}
use Rattle.fg_board.proofs.board.ask_inside.Goals as goal

pub returns-clause-turn : goal.returns-clause-turn
returns-clause-turn g c =
    turn_taken (look c.args.key None (look_of c.ask-answer.result)) (look c.args.key None (look_of c.of.result.value))
    c.args.seat.now c.enter-flow.new.seat c.settle.new.seat c.enter-flow.result c.enter-flow.result
    (ap (λ (a : Asked). look c.args.key None (look_of a)) c.of.ensures) c.enter-flow.ensures.seat c.settle.ensures.seat
    c.enter-flow.ensures.calls c.enter-flow.ensures.owner c.enter-flow.ensures.grows tt c.ask-answer.ensures.asks.looks

pub returns-clause-equation : goal.returns-clause-equation
returns-clause-equation g c =
    subst (λ (o : Option BoardState). IsSomeAnd o (λ board. TellsEquation board c.args.key c.ask-answer.result))
    (sym (ap (λ (s : Standing BoardState). s.entered) c.settle.ensures.seat
    ∙ ap (λ (s : Standing BoardState). s.entered) c.enter-flow.ensures.seat))
    c.ask-answer.ensures.asks.equation

pub returns-clause-told : goal.returns-clause-told
returns-clause-told g c =
    subst (λ (told : List Entry). WasAnswered (map told_from told) c.args.key c.ask-answer.result)
    (sym (ap (λ (s : Standing BoardState). s.told) c.settle.ensures.seat))
    (subst (λ (a : Asked). WasAnswered (map told_from (c.enter-flow.new.seat.told ++ told_by c.enter-flow.result (look c.args.key None (look_of a))))
    c.args.key c.ask-answer.result) (sym c.of.ensures)
    (answer_told c.codes_are_read_back.ensures.told c.args.key c.ask-answer.result c.enter-flow.result c.enter-flow.result
    c.ask-answer.ensures.asks c.enter-flow.new.seat.told))

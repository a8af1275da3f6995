use Rattle.std.proofs.Common.{map, ap}
use Rattle.fg_core.specs.Codes.{told_from}
use Rattle.fg_board.specs.Deeds.{brings}
use Rattle.fg_board.proofs.OneTurn.{turn_taken}
use Rattle.fg_words.specs.declared.Word.{Word}
use Rattle.fg_board.proofs.Bringing.{word_follows, can_bring}
use Rattle.fg_board.proofs.board.bring_inside.Goals as goal

pub bring-fate-requires : goal.bring-fate-requires
bring-fate-requires g c = word_follows c.enter-flow.new.seat.calls c.args.seat.now.told c.enter-flow.result c.enter-flow.ensures.owner
    c.enter-flow.ensures.grows c.args.key c.worked_words_follow.ensures c.args.slot c.args.share c.requires.worked

pub returns-clause-turn : goal.returns-clause-turn
returns-clause-turn g c =
    turn_taken (brings c.args.holds_job c.args.key c.args.slot c.args.share c.bring-fate.result) (brings c.args.holds_job c.args.key c.args.slot c.of-word.result.value c.bring-fate.result) c.args.seat.now
    c.enter-flow.new.seat c.settle.new.seat c.enter-flow.result c.bring-fate.new.flow
    (ap (λ (w : Word). brings c.args.holds_job c.args.key c.args.slot w c.bring-fate.result) c.of-word.ensures) c.enter-flow.ensures.seat c.settle.ensures.seat
    c.enter-flow.ensures.calls c.enter-flow.ensures.owner c.enter-flow.ensures.grows
    (can_bring c.args.holds_job (map told_from c.args.seat.now.told) c.args.key c.args.slot c.args.share c.bring-fate.result c.requires.worked)
    c.bring-fate.ensures

use Rattle.std.proofs.Common.{List, drop, subst, sym}
use Rattle.fg_peel.specs.declared.Slot.{Slot}
use Rattle.fg_peel.specs.Look.{IsLook}
use Rattle.fg_peel.specs.Slots.{OnlyFills, words_from, equation_of}
use Rattle.fg_buffer.proofs.PeeledBuffer.{same_front, same_rest}
use Rattle.fg_buffer.proofs.playout_buffer.look_placed.Goals as goal

pub returns-clause-before : goal.returns-clause-before
returns-clause-before c =
    same_front c.args.below c.look_at.new.entries.below _ _ c.args.entries.now c.look_at.new.entries.entries.now _ c.requires.within
    c.look_at.ensures.rest c.entries-1.given.1

pub returns-clause-look : goal.returns-clause-look
returns-clause-look c =
    subst
    (λ (s : List Slot). IsLook (words_from c.args.start (drop c.args.below c.args.entries.now)) (words_from c.args.start s)
    (equation_of c.args.line.now) c.look_at.result)
    (sym (same_rest c.args.below c.look_at.new.entries.below _ _ c.args.entries.now c.look_at.new.entries.entries.now _
    c.requires.within c.look_at.ensures.rest c.entries-1.given.1))
    c.look_at.ensures.look

pub returns-clause-fills : goal.returns-clause-fills
returns-clause-fills c =
    subst (λ (s : List Slot). OnlyFills (drop c.args.below c.args.entries.now) s)
    (sym (same_rest c.args.below c.look_at.new.entries.below _ _ c.args.entries.now c.look_at.new.entries.entries.now _
    c.requires.within c.look_at.ensures.rest c.entries-1.given.1))
    c.look_at.ensures.fills

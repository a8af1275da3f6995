use Rattle.std.proofs.Common.{◌≡◌, ◌*◌, drop}
use Rattle.fg_shape.specs.Shape.{slots_of}
use Rattle.fg_words.specs.Word.{word_xor}
use Rattle.fg_peel.specs.Slots.{words_from}
use Rattle.fg_peel.specs.Equation.{sum_at}
use Rattle.fg_peel.proofs.Adding.{IsShort}
use Rattle.fg_peel.proofs.span.Span.add_words.Given as goal

-- the sum so far and the words at the slots that are left make the sum of all
abbrev pub invariant-loop-group : goal.invariant-loop-group
invariant-loop-group g l =
    let words = words_from l.self.start (g.E.EntryRow.slots l.self.entries.now) in
    let xs = slots_of l.line.base l.line.shape.offset l.line.shape.na in
    (word_xor l.sum (sum_at words (drop (4 * l.group) xs)) ≡ word_xor l.fn.sum (sum_at words xs)) × IsShort l.sum

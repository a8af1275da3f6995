use Rattle.std.proofs.Common.{◌≡◌, sym, ◌∙◌}
use Rattle.std.specs.List.{filter_map}
use Rattle.fg_words.specs.Word.{word_xor, HasRoom}
use Rattle.fg_peel.specs.Equation.{slots, sum_at}
use Rattle.fg_peel.specs.Slots.{equation_of, words_from}
use Rattle.fg_peel.proofs.Adding.{cancels, cancelled, short_sum}
use Rattle.fg_peel.proofs.span.Span.comes_out.Goals as goal

pub returns : goal.returns
returns g c =
    let words = words_from c.args.self.now.start (g.E.EntryRow.slots c.args.self.now.entries.now) in
    let xs = slots (equation_of c.args.line.now) in
    let parity = c.args.line.now.parity in
    let total = sum_at words xs in
    let room : HasRoom parity = rw c.word.ensures.word at c.word.ensures.room in
    let added : c.add_words.new.sum ≡ word_xor parity total = rw c.word.ensures.word at c.add_words.ensures in (
      λ zero. cancels parity total room (short_sum (filter_map words xs)) (sym added ∙ c.is_zero.ensures.0 zero),
      λ out. c.is_zero.ensures.1 (added ∙ cancelled parity total room out),
    )

use Rattle.std.proofs.Common.{◌≡◌, ◌≤◌, ◌+◌, ◌*◌, length, drop, sym, subst, arith}
use Rattle.fg_peel.specs.Equation.{slots, sum_at}
use Rattle.fg_peel.specs.Slots.{equation_of, words_from}
use Rattle.fg_peel.specs.Recovery.{with_added}
use Rattle.std.specs.Option.{option_copied}
use Rattle.fg_shape.proofs.ShapeLemmas.{length-slots_of}
use Rattle.fg_words.specs.declared.Word.{Word}
use Rattle.fg_words.specs.Word.{word_xor}
use Rattle.fg_peel.proofs.Adding.{IsShort, short_added, adding_next, adding_done}
use Rattle.fg_peel.proofs.span.Span.add_words.Goals as goal

pub loop-group-preserved : goal.loop-group-preserved
loop-group-preserved g c =
    let xs = slots (equation_of c.args.line.now) in
    let words = words_from c.args.self.now.start (g.E.EntryRow.slots c.args.self.now.entries.now) in
    let total = word_xor c.args.sum.now (sum_at words xs) in
    let count = length-slots_of c.args.line.now.base c.args.line.now.shape.offset c.args.line.now.shape.na in
    let sum = c.loop-group.sum in
    let at = 4 * c.loop-group.group in
    let first = option_copied c.word_at-first.result in
    let second = option_copied c.word_at-second.result in
    let third = option_copied c.word_at-third.result in
    let fourth = option_copied c.word_at-fourth.result in
    let one : word_xor (with_added sum first) (sum_at words (drop (at + 1) xs)) ≡ total =
    adding_next words xs at sum total (at + 1) (omega arith) first
    (λ less. c.word_at-first.ensures.within (omega (arith, less, count)))
    (λ more. c.word_at-first.ensures.past (omega (arith, more, count))) c.loop-group.invariant.0 in
    let two : word_xor (with_added (with_added sum first) second) (sum_at words (drop (at + 2) xs)) ≡ total =
    adding_next words xs (at + 1) (with_added sum first) total (at + 2) (omega arith) second
    (λ less. c.word_at-second.ensures.within (omega (arith, less, count)))
    (λ more. c.word_at-second.ensures.past (omega (arith, more, count))) one in
    let three : word_xor (with_added (with_added (with_added sum first) second) third) (sum_at words (drop (at + 3) xs)) ≡ total =
    adding_next words xs (at + 2) (with_added (with_added sum first) second) total (at + 3) (omega arith) third
    (λ less. c.word_at-third.ensures.within (omega (arith, less, count)))
    (λ more. c.word_at-third.ensures.past (omega (arith, more, count))) two in
    let four : word_xor (with_added (with_added (with_added (with_added sum first) second) third) fourth) (sum_at words (drop (4 * (c.loop-group.group + 1)) xs)) ≡ total =
    adding_next words xs (at + 3) (with_added (with_added (with_added sum first) second) third) total (4 * (c.loop-group.group + 1)) (omega arith) fourth
    (λ less. c.word_at-fourth.ensures.within (omega (arith, less, count)))
    (λ more. c.word_at-fourth.ensures.past (omega (arith, more, count))) three in
    let all : Word = with_added (with_added (with_added (with_added sum first) second) third) fourth in
    let short : IsShort all =
    short_added (with_added (with_added (with_added sum first) second) third) fourth
    (short_added (with_added (with_added sum first) second) third (short_added (with_added sum first) second
    (short_added sum first c.loop-group.invariant.1))) in
    subst (λ (w : Word). (word_xor w (sum_at words (drop (4 * (c.loop-group.group + 1)) xs)) ≡ total) × IsShort w) (sym {b = all} c.add_four.ensures) (
      four,
      short,
    )

pub returns : goal.returns
returns g c =
    let xs = slots (equation_of c.args.line.now) in
    let words = words_from c.args.self.now.start (g.E.EntryRow.slots c.args.self.now.entries.now) in
    let count = length-slots_of c.args.line.now.base c.args.line.now.shape.offset c.args.line.now.shape.na in
    let past : length xs ≤ 4 * c.loop-group.group = omega (arith, count, c.div_ceil-group-end.ensures, c.loop-group-test.false) in
    adding_done words xs (4 * c.loop-group.group) c.loop-group.sum (word_xor c.args.sum.now (sum_at words xs)) past c.loop-group.invariant.1 c.loop-group.invariant.0

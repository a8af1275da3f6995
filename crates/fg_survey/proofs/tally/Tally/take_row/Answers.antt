use Rattle.std.proofs.Common.{◌+◌, ◌-◌, eqb, get_or, set, refl, ap, ◌∙◌, arith}
use Rattle.fg_survey.specs.Matrix.{Protection}
use Rattle.fg_survey.proofs.TallyLemmas.{few_numbers, few_straight, row_more, one_at_most}
use Rattle.fg_survey.proofs.tally.Tally.take_row.Goals as goal

pub raise-requires-clause-room : goal.raise-requires-clause-room
raise-requires-clause-room c =
    let known = c.requires.few in
    let h = known.2 in
    let few = few_numbers c.args.self.now.numbers.items known.1 (c.from-place.result - 1) h.numbers (omega (arith, c.from-place.ensures, c.requires.number.0, c.requires.number.1)) in
    omega (arith, few, known.3)

pub raise-requires-2-clause-room : goal.raise-requires-2-clause-room
raise-requires-2-clause-room c =
    let known = c.requires.few in
    let h = known.2 in
    let few = few_straight c.args.self.now.straight.items known.1 (c.from-place.result - 1) h.straight (omega (arith, c.from-place.ensures, c.requires.number.0, c.requires.number.1)) in
    let one = one_at_most (eqb c.args.offset 1) in
    omega (arith, few, one, c.one_if.ensures, known.3)

pub returns : goal.returns
returns c = λ columns rows h.
    let p : Protection = record { offset = c.args.offset; number = c.args.number; ahead = c.args.ahead } in
    let numbers = c.args.self.now.numbers.items in
    let straight = c.args.self.now.straight.items in
    row_more c.args.self.now _ columns rows p c.requires.number.0 c.requires.number.1
    (c.raise.ensures ∙ ap (λ n. set numbers (n - 1) (get_or numbers (n - 1) 0 + 1)) c.from-place.ensures)
    (c.raise-2.ensures ∙ ap (λ n. set straight (n - 1) (get_or straight (n - 1) 0 + c.one_if.result)) c.from-place.ensures
    ∙ ap (λ b. set straight (c.args.number - 1) (get_or straight (c.args.number - 1) 0 + b)) c.one_if.ensures)
    refl refl refl c.max-self.ensures h

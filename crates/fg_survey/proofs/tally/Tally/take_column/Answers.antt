use Rattle.std.proofs.Common.{◌+◌, ◌-◌, ◌*◌, get_or, set, refl, ap, ◌∙◌, arith}
use Rattle.fg_survey.specs.Matrix.{Protection}
use Rattle.fg_survey.proofs.TallyLemmas.{column_more, few_shapes}
use Rattle.fg_survey.proofs.tally.Tally.take_column.Goals as goal

pub raise-requires-clause-room : goal.raise-requires-clause-room
raise-requires-clause-room c =
    let known = c.requires.few in
    let h = known.2 in
    let place = (c.from.result - 1) * 20 + (c.from-2.result - 1) in
    let few = few_shapes c.args.self.now.shapes.items known.0 place h.shapes (omega (arith, c.from.ensures, c.from-2.ensures, c.requires.offset.1, c.requires.number.1)) in
    omega (arith, few, known.3)

pub returns : goal.returns
returns c = λ columns rows h.
    let p : Protection = record { offset = c.args.offset; number = c.args.number; ahead = c.args.ahead } in
    let counts = c.args.self.now.shapes.items in
    column_more c.args.self.now _ columns rows p c.requires.offset.0 c.requires.offset.1 c.requires.number.0 c.requires.number.1
    (c.raise.ensures ∙ ap (λ o. set counts ((o - 1) * 20 + (c.from-2.result - 1)) (get_or counts ((o - 1) * 20 + (c.from-2.result - 1)) 0 + 1)) c.from.ensures
    ∙ ap (λ n. set counts ((c.args.offset - 1) * 20 + (n - 1)) (get_or counts ((c.args.offset - 1) * 20 + (n - 1)) 0 + 1)) c.from-2.ensures)
    refl refl refl refl c.max-self.ensures h

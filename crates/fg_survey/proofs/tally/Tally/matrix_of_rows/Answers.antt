use Rattle.std.proofs.Common.{◌<◌, ℕ, List, length, get_or, refl, ap, ◌∙◌, arith}
use Rattle.std.proofs.lemmas.List.{get_or_read}
use Rattle.fg_survey.specs.Matrix.{commonest}
use Rattle.fg_survey.proofs.TallyLemmas.{rows_matrix}
use Rattle.fg_survey.proofs.tally.Tally.matrix_of_rows.Goals as goal

pub returns : goal.returns
returns c = λ columns rows h.
    let t = c.args.self.now in
    let place = c.greatest-place.result in
    let long = ap (λ (l : List ℕ). length l) c.deref.ensures.value in
    let within : place < length t.numbers.items = omega (arith, c.greatest-place.ensures.within, long) in
    rows_matrix t columns rows place _ h c.requires.none
    (c.greatest-place.ensures.value ∙ ap (λ (l : List ℕ). commonest (λ i. get_or l i 0) (length l)) c.deref.ensures.value) within refl refl
    (get_or_read t.straight.items place c.index-same.result.now (omega (arith, within, h.numbers.all, h.straight.all)) c.index-same.ensures 0) c.saturating_sub.ensures refl

use Rattle.std.proofs.Common.{◌<◌, ℕ, ◌+◌, ◌/◌, List, length, get_or, refl, ap, ◌∙◌, arith}
use Rattle.std.proofs.lemmas.List.{get_or_read}
use Rattle.fg_survey.specs.Matrix.{commonest}
use Rattle.fg_survey.proofs.TallyLemmas.{columns_matrix, few_shapes, few_straight}
use Rattle.fg_survey.proofs.tally.Tally.matrix_of_columns.Goals as goal

pub overflow_add-same : goal.overflow_add-same
overflow_add-same c =
    let t = c.args.self.now in
    let known = c.requires.few in
    let h = known.2 in
    let place = c.greatest-place.result in
    let long = ap (λ (l : List ℕ). length l) c.deref.ensures.value in
    let within : place < length t.shapes.items = omega (arith, c.greatest-place.ensures.within, long) in
    let one = get_or_read t.shapes.items place c.index.result.now within c.index.ensures 0 in
    let other = get_or_read t.straight.items (place / 20) c.index-2.result.now (omega (arith, within, h.shapes.all, h.straight.all)) c.index-2.ensures 0 in
    let few = few_shapes t.shapes.items known.0 place h.shapes (omega (arith, within, h.shapes.all)) in
    let few_rows = few_straight t.straight.items known.1 (place / 20) h.straight (omega (arith, within, h.shapes.all)) in
    omega (arith, one, other, few, few_rows, known.3)

pub returns : goal.returns
returns c = λ columns rows h.
    let t = c.args.self.now in
    let place = c.greatest-place.result in
    let long = ap (λ (l : List ℕ). length l) c.deref.ensures.value in
    let within : place < length t.shapes.items = omega (arith, c.greatest-place.ensures.within, long) in
    let one = get_or_read t.shapes.items place c.index.result.now within c.index.ensures 0 in
    let other = get_or_read t.straight.items (place / 20) c.index-2.result.now (omega (arith, within, h.shapes.all, h.straight.all)) c.index-2.ensures 0 in
    columns_matrix t columns rows place _ h c.requires.some
    (c.greatest-place.ensures.value ∙ ap (λ (l : List ℕ). commonest (λ i. get_or l i 0) (length l)) c.deref.ensures.value) within refl refl
    (ap (λ n. n + c.index-2.result.now) one ∙ ap (λ n. get_or t.shapes.items place 0 + n) other) c.saturating_sub.ensures refl

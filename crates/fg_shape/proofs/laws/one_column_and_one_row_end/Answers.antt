use Rattle.std.proofs.Common.{◌≡◌, arith, sym, ◌∙◌}
use Rattle.fg_shape.proofs.LayoutLemmas.{column_last, row_last, same_column, same_row}
use Rattle.fg_shape.proofs.laws.one_column_and_one_row_end.Goals as goal

pub returns-clause-column : goal.returns-clause-column
returns-clause-column c = λ layout slot a b x y.
    let same : a ≡ b = omega (arith, column_last layout slot a x, column_last layout slot b y) in
    let one = same_column layout x.matrix y.matrix x.column y.column x.is_column y.is_column (sym x.first ∙ same ∙ y.first) in
    (one.0, one.1, same)

pub returns-clause-row : goal.returns-clause-row
returns-clause-row c = λ layout slot a b x y.
    let same : a ≡ b = omega (arith, row_last layout slot a x, row_last layout slot b y) in
    let one = same_row layout x.matrix y.matrix x.row y.row x.is_row y.is_row (sym x.first ∙ same ∙ y.first) in
    (one.0, one.1, same)

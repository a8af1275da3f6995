use Rattle.fg_encode.proofs.EndLemmas.{columns_one, columns_none, rows_one, rows_none}
use Rattle.fg_encode.proofs.laws.ends_are_the_layouts.Goals as goal

pub returns : goal.returns
returns c = record {
  columns = λ layout slot. (columns_one c.one_column_and_one_row_end.ensures.column layout slot, columns_none layout slot);
  rows = λ layout slot. (rows_one c.one_column_and_one_row_end.ensures.row layout slot, rows_none layout slot);
}

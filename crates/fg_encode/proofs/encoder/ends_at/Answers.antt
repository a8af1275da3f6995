use Rattle.fg_encode.proofs.EndLemmas.{columns_listed, rows_listed}
use Rattle.fg_encode.proofs.encoder.ends_at.Goals as goal

pub returns-clause-columns : goal.returns-clause-columns
returns-clause-columns c = columns_listed c.ends_are_the_layouts.ensures.columns c.args.layout.now c.args.slot c.ending_at.result.column c.ending_at.ensures.column

pub returns-clause-rows : goal.returns-clause-rows
returns-clause-rows c = rows_listed c.ends_are_the_layouts.ensures.rows c.args.layout.now c.args.slot c.ending_at.result.row c.ending_at.ensures.row

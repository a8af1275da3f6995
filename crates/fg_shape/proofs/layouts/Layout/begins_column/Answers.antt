use Rattle.std.proofs.lemmas.Bool.{eqb-true, eq-eqb}
use Rattle.fg_shape.proofs.LayoutLemmas.{begins_by_test}
use Rattle.fg_shape.proofs.layouts.Layout.begins_column.Goals as goal

pub returns : goal.returns
returns c =
    let test = begins_by_test c.args.self.now c.args.slot c.from-columns.result c.from-rows.result c.first_row.result
    c.from-columns.ensures c.from-rows.ensures c.first_row.ensures in (
      λ same. test.0 (eqb-true _ _ same),
      λ p. eq-eqb _ _ (test.1 p.0 p.1 p.2 p.3),
    )

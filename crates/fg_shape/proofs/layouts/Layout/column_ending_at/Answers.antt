use Rattle.std.proofs.Common.{◌≡◌, ◌-◌, ◌*◌, arith, ◌∙◌}
use Rattle.fg_shape.proofs.LayoutLemmas.{column_last, column_ends}
use Rattle.fg_shape.proofs.layouts.Layout.column_ending_at.Goals as goal
use Rattle.fg_shape.proofs.layouts.Layout.column_ending_at.Goals.{then-slot-length-via-then-slot-length, then-slot-length-via-else-slot-length+then-not-begins_column}

pub returns-then-slot-length : goal.returns-then-slot-length
returns-then-slot-length c base ends =
    let length : c.from.result * c.from-2.result ≡ (c.args.self.now.d - 1) * c.args.self.now.l = cc in
    let last = column_last c.args.self.now c.args.slot base ends in
    elim c.then-slot-length.branch [
      | then-slot-length-via-then-slot-length w ↦ omega (arith, w.if-slot-length.true, length, last)
      | then-slot-length-via-else-slot-length+then-not-begins_column w ↦
          (let there : c.args.slot - c.from.result * c.from-2.result ≡ base = omega (arith, length, last) in
          let begins = w.begins_column.ensures.1 (ends.matrix, ends.column, ends.is_column, there ∙ ends.first) in
          let refused = w.if-not-begins_column.true in
          cc)
    ]

pub returns : goal.returns
returns c =
    let length : c.from.result * c.from-2.result ≡ (c.args.self.now.d - 1) * c.args.self.now.l = cc in
    column_ends c.args.self.now c.args.slot (c.args.slot - c.from.result * c.from-2.result)
    (omega (arith, length, c.if-slot-length.false)) (c.begins_column.ensures.0 c.if-not-begins_column.false)

use Rattle.std.proofs.Common.{◌≡◌, ◌-◌, ◌%◌, arith, sym, ◌∙◌, ap}
use Rattle.fg_shape.proofs.LayoutLemmas.{row_last, row_ends, row_whole}
use Rattle.fg_shape.proofs.layouts.Layout.row_ending_at.Goals as goal
use Rattle.fg_shape.proofs.layouts.Layout.row_ending_at.Goals.{then-not-self-via-then-not-self, then-not-self-via-else-not-self+then-slot-length, then-not-self-via-else-not-self+else-slot-length+then-slot-length-ne0}

pub returns-then-not-self : goal.returns-then-not-self
returns-then-not-self c base ends =
    let last = row_last c.args.self.now c.args.slot base ends in
    elim c.then-not-self.branch [
      | then-not-self-via-then-not-self w ↦ (let off = w.if-not-self.true in let sent = ends.sent in cc)
      | then-not-self-via-else-not-self+then-slot-length w ↦
          omega (arith, w.if-slot-length.true, c.from-columns.ensures, last)
      | then-not-self-via-else-not-self+else-slot-length+then-slot-length-ne0 w ↦
          (let there : c.args.slot - (c.from-columns.result - 1) ≡ base = omega (arith, c.from-columns.ensures, last) in
          let whole = row_whole c.args.self.now base ends.matrix ends.row ends.first in
          w.if-slot-length-ne0.true (ap (λ x. x % c.from-columns.result) there ∙ ap (λ x. base % x) c.from-columns.ensures ∙ whole))
    ]

pub returns : goal.returns
returns c =
    row_ends c.args.self.now c.args.slot (c.args.slot - (c.from-columns.result - 1)) c.if-not-self.false
    (omega (arith, c.from-columns.ensures, c.if-slot-length.false))
    (ap (λ x. (c.args.slot - (c.from-columns.result - 1)) % x) (sym c.from-columns.ensures) ∙ c.if-slot-length-ne0.false)

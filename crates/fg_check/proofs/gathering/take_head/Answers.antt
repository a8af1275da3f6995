use Rattle.std.proofs.Common.{◌∙◌, sym, arith}
use Rattle.fg_check.proofs.Grammar.{head_begun, head_refused}
use Rattle.fg_check.proofs.gathering.take_head.Goals as goal

pub returns-then-is_some : goal.returns-then-is_some
returns-then-is_some c =
    head_refused c.args.opened.now c.args.port c.args.mark c.args.count (sym c.is_some.ensures ∙ c.if-is_some.true)
    (omega (arith, c.ranges.port), c.requires, omega (arith, c.ranges.count))

pub returns : goal.returns
returns c =
    head_begun c.args.opened.now c.args.port c.args.mark c.args.count c.new.result c.new-2.result c.new-3.result (sym c.is_some.ensures ∙ c.if-is_some.false)
    c.new.ensures c.new-2.ensures c.new-3.ensures (omega (arith, c.ranges.port), c.requires, omega (arith, c.ranges.count))

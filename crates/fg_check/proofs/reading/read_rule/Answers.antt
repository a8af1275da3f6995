use Rattle.std.proofs.Common.{inl, inr, [], ◌∷◌, arith}
use Rattle.fg_check.specs.Line.{numbers_text}
use Rattle.fg_check.proofs.Spelling.{at_none, rule_begins, rule_numbers, rule_out, rule_read}
use Rattle.fg_check.proofs.reading.read_rule.Goals as goal
use Rattle.fg_check.proofs.reading.read_rule.Goals.{then-offset-from-via-then-offset-from, then-offset-from-via-else-offset-from+then-na-from}

pub returns-in_err-behind : goal.returns-in_err-behind
returns-in_err-behind c =
    at_none _ _ _ c.from_residual.ensures
    (λ rule h. c.in_err-behind.ensures (numbers_text (rule.0 ∷ rule.1.offset ∷ rule.1.na ∷ [])) (rule_begins _ rule h))

pub returns-in_err-base : goal.returns-in_err-base
returns-in_err-base c =
    at_none _ _ _ c.from_residual-in_err-base.ensures
    (λ rule h. c.in_err-base.ensures rule.0 rule.1.offset rule.1.na (rule_numbers _ _ rule c.in_ok-behind.ensures h))

pub returns-then-offset-from : goal.returns-then-offset-from
returns-then-offset-from c =
    rule_out _ _ c.in_ok-base.base c.in_ok-base.offset c.in_ok-base.na c.in_ok-behind.ensures c.in_ok-base.ensures (elim c.then-offset-from.branch [
      | then-offset-from-via-then-offset-from w ↦ inl (let past = w.if-offset-from.true in let limit = c.from.ensures in omega (arith, past, limit))
      | then-offset-from-via-else-offset-from+then-na-from w ↦ inr (let past = w.if-na-from.true in let limit = w.from-else-offset-from.ensures in omega (arith, past, limit))
    ])

pub returns : goal.returns
returns c =
    rule_read _ _ c.in_ok-base.base (record { offset = c.in_ok-base.offset; na = c.in_ok-base.na }) c.in_ok-behind.ensures c.in_ok-base.ensures (omega (arith, c.from.ensures)) (omega (arith, c.from-else-offset-from.ensures))

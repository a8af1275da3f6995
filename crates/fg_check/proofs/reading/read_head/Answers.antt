use Rattle.std.proofs.Common.{inl, inr, [], ◌∷◌, arith}
use Rattle.fg_check.specs.Line.{numbers_text}
use Rattle.fg_check.proofs.Spelling.{at_none, head_begins, head_numbers, head_out, head_read}
use Rattle.fg_check.proofs.reading.read_head.Goals as goal
use Rattle.fg_check.proofs.reading.read_head.Goals.{then-port-from-via-then-port-from, then-port-from-via-else-port-from+then-count-from}

pub returns-in_err-behind : goal.returns-in_err-behind
returns-in_err-behind c =
    at_none _ _ _ c.from_residual.ensures
    (λ port mark count h. c.in_err-behind.ensures (numbers_text (port ∷ mark ∷ count ∷ [])) (head_begins _ port mark count h))

pub returns-in_err-port : goal.returns-in_err-port
returns-in_err-port c =
    at_none _ _ _ c.from_residual-in_err-port.ensures
    (λ port mark count h. c.in_err-port.ensures port mark count (head_numbers _ _ port mark count c.in_ok-behind.ensures h))

pub returns-then-port-from : goal.returns-then-port-from
returns-then-port-from c =
    head_out _ _ c.in_ok-port.port c.in_ok-port.mark c.in_ok-port.count c.in_ok-behind.ensures c.in_ok-port.ensures (elim c.then-port-from.branch [
      | then-port-from-via-then-port-from w ↦ inl (let past = w.if-port-from.true in let limit = c.from.ensures in omega (arith, past, limit))
      | then-port-from-via-else-port-from+then-count-from w ↦ inr (let past = w.if-count-from.true in let limit = w.from-else-port-from.ensures in omega (arith, past, limit))
    ])

pub returns : goal.returns
returns c =
    head_read _ _ c.in_ok-port.port c.in_ok-port.mark c.in_ok-port.count c.in_ok-behind.ensures c.in_ok-port.ensures (omega (arith, c.from.ensures)) (omega (arith, c.from-else-port-from.ensures))

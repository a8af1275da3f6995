use Rattle.std.proofs.Common.{[], ◌∷◌}
use Rattle.fg_check.specs.Line.{numbers_text}
use Rattle.fg_check.proofs.Spelling.{at_none, open_begins, open_numbers, open_read}
use Rattle.fg_check.proofs.reading.read_open.Goals as goal

pub returns-in_err-behind : goal.returns-in_err-behind
returns-in_err-behind c = at_none _ _ _ c.from_residual.ensures (λ run h. c.in_err-behind.ensures (numbers_text (run.0 ∷ run.1 ∷ [])) (open_begins _ run h))

pub returns-in_err-first : goal.returns-in_err-first
returns-in_err-first c = at_none _ _ _ c.from_residual-in_err-first.ensures (λ run h. c.in_err-first.ensures run.0 run.1 (open_numbers _ _ run c.in_ok-behind.ensures h))

pub returns : goal.returns
returns c = open_read _ _ c.in_ok-first.first c.in_ok-first.count c.in_ok-behind.ensures c.in_ok-first.ensures

use Rattle.std.proofs.Common.{[], ◌∷◌}
use Rattle.fg_check.specs.Line.{numbers_text}
use Rattle.fg_check.proofs.Spelling.{at_none, known_begins, known_numbers, known_read}
use Rattle.fg_check.proofs.reading.read_known.Goals as goal

pub returns-in_err-behind : goal.returns-in_err-behind
returns-in_err-behind c = at_none _ _ _ c.from_residual.ensures (λ run h. c.in_err-behind.ensures (numbers_text (run.0 ∷ run.1 ∷ [])) (known_begins _ run h))

pub returns-in_err-first : goal.returns-in_err-first
returns-in_err-first c = at_none _ _ _ c.from_residual-in_err-first.ensures (λ run h. c.in_err-first.ensures run.0 run.1 (known_numbers _ _ run c.in_ok-behind.ensures h))

pub returns : goal.returns
returns c = known_read _ _ c.in_ok-first.first c.in_ok-first.count c.in_ok-behind.ensures c.in_ok-first.ensures

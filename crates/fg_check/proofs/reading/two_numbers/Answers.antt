use Rattle.std.proofs.Common.{◌+◌, ℕ, take, drop, [], ◌∷◌}
use Rattle.fg_check.proofs.Spelling.{at_none, numbers_back, numbers_blank, numbers_join, numbers_part, numbers_rest}
use Rattle.fg_check.proofs.reading.two_numbers.Goals as goal

pub returns-in_err-blank : goal.returns-in_err-blank
returns-in_err-blank c =
    at_none _ _ _ c.from_residual.ensures (λ (first second : ℕ) h. c.in_err-blank.ensures (numbers_blank c.args.text.now first second [] h))

pub returns-in_err-first : goal.returns-in_err-first
returns-in_err-first c =
    at_none _ _ _ c.from_residual-in_err-first.ensures
    (λ first second h. let parts = numbers_part c.args.text.now c.in_ok-blank.blank first second [] c.in_ok-blank.ensures h in c.in_err-first.ensures first parts.0)

pub returns-in_err-second : goal.returns-in_err-second
returns-in_err-second c =
    at_none _ _ _ c.from_residual-in_err-second.ensures
    (λ first second h.
    let parts = numbers_part c.args.text.now c.in_ok-blank.blank first second [] c.in_ok-blank.ensures h in
    c.in_err-second.ensures second (numbers_back c.args.text.now (c.in_ok-blank.blank + 1) (second ∷ []) parts.1))

pub returns : goal.returns
returns c =
    numbers_join c.args.text.now c.in_ok-blank.blank c.in_ok-first.first c.in_ok-second.second [] c.in_ok-blank.ensures c.in_ok-first.ensures
    (numbers_rest c.args.text.now (c.in_ok-blank.blank + 1) (c.in_ok-second.second ∷ []) c.in_ok-second.ensures)

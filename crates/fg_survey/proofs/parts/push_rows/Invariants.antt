use Rattle.std.proofs.Common.{◌≡◌, ◌++◌, drop}
use Rattle.fg_survey.specs.Text.{rows_text}
use Rattle.fg_survey.proofs.parts.push_rows.Given as goal

abbrev pub invariant-loop-i : goal.invariant-loop-i
invariant-loop-i l =
    l.text.items ++ rows_text l.json l.start l.i (drop l.i l.rows) ≡ l.initial.text.items ++ rows_text l.json l.start 0 l.rows

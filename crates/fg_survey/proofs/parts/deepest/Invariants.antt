use Rattle.std.proofs.Common.{◌≡◌, max, List, drop}
use Rattle.fg_survey.specs.Heard.{Heard}
use Rattle.fg_survey.specs.Steps.{HaveEnded}
use Rattle.fg_survey.specs.Text.{deepest_in}
use Rattle.fg_survey.proofs.parts.deepest.Given as goal

abbrev pub invariant-loop-i : goal.invariant-loop-i
invariant-loop-i l = (heard : List Heard) → HaveEnded l.streams heard
    → max l.deepest (deepest_in l.port heard (drop l.i l.streams.senders.items)) ≡ deepest_in l.port heard l.streams.senders.items

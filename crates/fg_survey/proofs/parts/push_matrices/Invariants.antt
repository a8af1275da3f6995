use Rattle.std.proofs.Common.{◌≡◌, ◌++◌, List}
use Rattle.std.specs.List.{flat_map, range_with_len}
use Rattle.fg_survey.specs.Heard.{Heard}
use Rattle.fg_survey.specs.Lanes.{AreLanes}
use Rattle.fg_survey.specs.Steps.{HaveEnded}
use Rattle.fg_survey.specs.Text.{port_matrix}
use Rattle.fg_survey.proofs.parts.push_matrices.Given as goal

abbrev pub invariant-loop-i : goal.invariant-loop-i
invariant-loop-i l = (heard : List Heard) → AreLanes l.lanes heard → HaveEnded l.streams heard
    → l.text.items ≡ l.initial.text.items ++ flat_map (port_matrix l.json heard) (range_with_len 0 l.i)

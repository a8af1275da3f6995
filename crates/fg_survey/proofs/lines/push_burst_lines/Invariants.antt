use Rattle.std.proofs.Common.{◌≡◌, ◌++◌, take}
use Rattle.std.specs.List.{flat_map}
use Rattle.fg_survey.specs.Text.{burst_line}
use Rattle.fg_survey.proofs.lines.push_burst_lines.Given as goal

abbrev pub invariant-loop-burst : goal.invariant-loop-burst
invariant-loop-burst l =
    l.text.items ≡ l.initial.text.items ++ flat_map (burst_line l.json l.start l.sender) (take l.burst-index l.bursts)

use Rattle.std.proofs.Common.{◌≡◌, ◌++◌, take, map}
use Rattle.fg_survey.specs.Text.{all_named}
use Rattle.fg_survey.proofs.lines.push_all_named.Given as goal

abbrev pub invariant-loop-name : goal.invariant-loop-name
invariant-loop-name l =
    l.text.items ≡ l.initial.text.items ++ all_named l.json (map (λ count. (count.0.now, count.1)) (take l.name-index l.counts))

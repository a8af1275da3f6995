use Rattle.std.proofs.Common.{◌≡◌, ◌++◌, take, map}
use Rattle.fg_report.specs.Text.{counts_text}
use Rattle.fg_report.proofs.lines.push_counts.Given as goal

abbrev pub invariant-loop-name : goal.invariant-loop-name
invariant-loop-name l =
    l.text.items ≡ l.initial.text.items ++ counts_text (map (λ count. (count.0.now, count.1)) (take l.name-index l.counts))

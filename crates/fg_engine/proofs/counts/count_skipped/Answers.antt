use Rattle.std.proofs.Common.{◌+◌, ℕ, List, ap, ◌∙◌}
use Rattle.std.proofs.lemmas.Result.{on_ok_weaker}
use Rattle.fg_report.specs.Gaps.{with_gap}
use Rattle.fg_engine.proofs.Skipping.{counts_skipped}
use Rattle.fg_engine.proofs.counts.count_skipped.Goals as goal

pub returns-clause-counts : goal.returns-clause-counts
returns-clause-counts c = on_ok_weaker c.add.result (λ added window is.
    let sum = c.args.sum.now in
    let first = c.args.played.first in
    let windows = c.args.skipped.windows in
    let positions = c.args.skipped.positions in
    let gaps = added ∙ ap (λ (n : ℕ). with_gap sum.gaps (first + n) positions) c.from.ensures in
    ap (λ (g : List (ℕ × ℕ)). record sum { windows = sum.windows + windows; missing = sum.missing + positions; gaps = g }) gaps
    ∙ counts_skipped sum (first + c.args.played.count) windows window positions is c.if-skipped-eq0.false) c.add.ensures.added

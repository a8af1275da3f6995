use Rattle.std.proofs.Common.{arith}
use Rattle.fg_thin.proofs.SampleLemmas.{sample_number}
use Rattle.fg_thin.proofs.drawing.count_records.Goals as goal

pub returns-clause-count : goal.returns-clause-count
returns-clause-count c =
    let number = sample_number c.each_slot_has_its_number.ensures c.ends_are_the_layouts.ensures.columns c.ends_are_the_layouts.ensures.rows c.args.datagrams in
    let same = c.from-slots.ensures in
    let capped = c.saturating_sub.ensures in
    omega arith

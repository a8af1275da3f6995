use Rattle.std.proofs.Common.{◌∙◌}
use Rattle.fg_streams.proofs.Marking.{limit}
use Rattle.fg_streams.proofs.stream.Stream.new.Goals as goal

pub invariant_of-result : goal.invariant_of-result
invariant_of-result c = record { all = c.in_ok-no_marks.ensures.all ∙ limit; low = tt }

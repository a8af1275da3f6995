use Rattle.std.proofs.Common.{List, Bool, length, ap, arith}
use Rattle.fg_streams.proofs.stream.Stream.pids.Goals as goal

pub count_marks-requires : goal.count_marks-requires
count_marks-requires c = let same = ap (λ (t : List Bool). length t) c.deref.ensures.value in omega (arith, same, c.self.invariant.all)

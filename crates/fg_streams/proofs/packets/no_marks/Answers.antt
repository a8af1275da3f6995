use Rattle.std.proofs.lemmas.Result.{IfOk-weaker}
use Rattle.fg_streams.proofs.Marking.{unmarked}
use Rattle.fg_streams.proofs.packets.no_marks.Goals as goal

pub returns : goal.returns
returns c = IfOk-weaker c.vec.result _ _ (λ marks is. unmarked marks.items (is (λ y h. h))) c.vec.ensures.items_if_clones_equal

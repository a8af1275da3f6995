use Rattle.std.proofs.Common.{refl}
use Rattle.std.proofs.lemmas.Result.{IfOk-weaker}
use Rattle.fg_survey.proofs.Counting.{no_ports}
use Rattle.fg_survey.proofs.ports.no_rows.Goals as goal

pub returns : goal.returns
returns c = IfOk-weaker c.vec.result _ _ (λ rows is. no_ports rows.items _ refl (is (λ y h. h))) c.vec.ensures.items_if_clones_equal

use Rattle.fg_peel.proofs.Closures.{closure_grows, closure_final}
use Rattle.fg_peel.proofs.laws.closure_grows.Goals as goal

pub returns-clause-grows : goal.returns-clause-grows
returns-clause-grows c = closure_grows

pub returns-clause-complete : goal.returns-clause-complete
returns-clause-complete c = closure_final

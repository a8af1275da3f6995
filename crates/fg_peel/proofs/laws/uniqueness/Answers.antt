use Rattle.fg_peel.proofs.Solutions.{solutions_equal}
use Rattle.fg_peel.proofs.laws.uniqueness.Goals as goal

pub returns : goal.returns
returns c = solutions_equal

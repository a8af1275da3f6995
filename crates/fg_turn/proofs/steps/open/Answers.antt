use Rattle.std.proofs.Common.{rules}
use Rattle.fg_turn.proofs.Keeping.{opens}
use Rattle.fg_turn.proofs.steps.open.Goals as goal

pub load-requires : goal.load-requires
load-requires g c = (search rules, search rules, opens g.S.Guarded.owner g.S.Guarded.grows _ _ _ _ g.N.Named.entries c.requires.unopened c.requires.owner (g.S.Guarded.untold _))

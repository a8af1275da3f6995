use Rattle.std.proofs.Common.{rules}
use Rattle.fg_turn.proofs.Keeping.{draws}
use Rattle.fg_turn.proofs.steps.draw.Goals as goal

pub fetch_add-requires : goal.fetch_add-requires
fetch_add-requires g c = (search rules, search rules, draws g.S.Guarded.owner g.S.Guarded.grows _ _ _ _ c.requires.outside)

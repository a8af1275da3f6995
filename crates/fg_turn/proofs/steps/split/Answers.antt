use Rattle.std.proofs.Common.{rules}
use Rattle.fg_turn.proofs.Keeping.{splits}
use Rattle.fg_turn.proofs.steps.split.Goals as goal

pub split_seat-requires : goal.split_seat-requires
split_seat-requires g c = (search rules, search rules, splits g.S.Guarded.owner g.S.Guarded.grows _ _ _ c.args.made c.requires.owner.0 c.requires.owner.1 c.requires.room.0 c.requires.room.1 g.S.Guarded.untold)

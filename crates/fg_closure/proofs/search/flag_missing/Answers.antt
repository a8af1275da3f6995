use Rattle.std.proofs.Common.{length, arith}
use Rattle.fg_closure.proofs.Misses.{slot_within, slot_limit}
use Rattle.fg_closure.proofs.search.flag_missing.Goals as goal

pub overflow_sub-flags : goal.overflow_sub-flags
overflow_sub-flags c = (slot_within c.args.first (length c.args.flags.now) c.args.line c.in-One.position c.requires c.in-One.ensures.0).0

pub bounds-flags-position : goal.bounds-flags-position
bounds-flags-position c = (slot_within c.args.first (length c.args.flags.now) c.args.line c.in-One.position c.requires c.in-One.ensures.0).1

pub returns-in-One-clause-near : goal.returns-in-One-clause-near
returns-in-One-clause-near c =
    let low = slot_limit c.args.first (length c.args.flags.now) c.args.line c.in-One.position c.requires c.in-One.ensures.0 in omega (arith, low)

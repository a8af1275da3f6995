use Rattle.fg_commands.proofs.Filters.{also_answered, ended_so}
use Rattle.fg_commands.proofs.Picked.{comes_back}
use Rattle.fg_commands.proofs.Traces.{trace_answered}
use Rattle.fg_commands.proofs.picking.run_pick.Goals as goal

pub returns : goal.returns
returns g c =
    let e = c.pick.ensures in
    ended_so c.of.result c.into.result _ c.of.ensures.status c.of.ensures.why c.into.ensures
    (also_answered _ _ _ (trace_answered c.args.max _ _ c.pick.result e.whole e.exactly e.all_read e.reads e.refused e.part e.faults)
    (comes_back c.args.selection.now c.args.max c.pick.result _ _ _ e.comes_back))

use Rattle.std.proofs.Common.{sym, subst}
use Rattle.std.specs.Global.{Vec}
use Rattle.std.specs.List.{All}
use Rattle.fg_flows.specs.Plan.{playout_of}
use Rattle.fg_workers.specs.declared.post.Host.{Host}
use Rattle.fg_workers.specs.Crewed.{IsNewHost}
use Rattle.fg_repair.proofs.crewed.repairing.over_boards.Goals as goal

pub windows_on-requires-clause-new : goal.windows_on-requires-clause-new
windows_on-requires-clause-new g c = (
  playout_of c.args.plan.now,
  subst (λ (hosts : Vec Host). All (IsNewHost (playout_of c.args.plan.now)) hosts.items) (sym c.replace-hosts.ensures.value) c.requires.begins.new_hosts,
)

pub repair_in_batches-requires-clause-empty : goal.repair_in_batches-requires-clause-empty
repair_in_batches-requires-clause-empty g c κs within =
    c.in-Ok.ensures.new (playout_of c.args.plan.now)
    (subst (λ (hosts : Vec Host). All (IsNewHost (playout_of c.args.plan.now)) hosts.items) (sym c.replace-hosts.ensures.value) c.requires.begins.new_hosts)

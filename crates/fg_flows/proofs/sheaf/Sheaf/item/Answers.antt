use Rattle.std.proofs.Common.{◌∙◌, Some, ap}
use Rattle.fg_flows.specs.Sheaf.{Item}
use Rattle.fg_flows.proofs.SheafLemmas.{record_found, record_lent}
use Rattle.fg_flows.proofs.sheaf.Sheaf.item.Goals as goal

pub returns : goal.returns
returns c =
    record_found c.self.inside.bytes.items c.self.inside.flows.items c.args.self.now c.args.flow c.args.k c.index.result.now c.index-entry.result.now
    c.self.view_is c.requires c.index.ensures c.index-entry.ensures
    ∙ ap (λ (item : Item). Some item)
    (record_lent c.self.inside.bytes.items c.deref.result.now c.index-entry.result.now c.from.result c.deref.ensures.value c.from.ensures)

use Rattle.std.proofs.Common.{ℕ, List, subst}
use Rattle.std.specs.List.{Contains}
use Rattle.fg_pick.specs.Picked.{IsOnFlow}
use Rattle.fg_pick.specs.Ports.{Marks}
use Rattle.fg_pick.proofs.Marking.{table_marked}
use Rattle.fg_pick.proofs.ports.PortTable.new.Goals as goal

pub returns : goal.returns
returns c =
    table_marked c.args.selection.now c.names_none.result _ _ _ c.names_none.ensures (c.in_ok-entries.ensures.items_if_clones_equal (λ y e. e))
    (subst (λ (flows : List ℕ). Marks (IsOnFlow flows) c.in_ok-entries.entries.items c.mark_flows.new.entries.items) c.as_slice.ensures c.mark_flows.ensures)
    (subst (λ (ports : List ℕ). Marks (Contains ports) c.mark_flows.new.entries.items c.mark_ports.new.entries.items) c.as_slice-2.ensures c.mark_ports.ensures)

use Rattle.std.proofs.Common.{◌≡◌, ◌<◌, true, get_or, length, set, subst, sym, arith}
use Rattle.fg_pick.specs.Ports.{Marks}
use Rattle.fg_pick.proofs.Marking.{marks_one, marks_port_more}
use Rattle.fg_pick.proofs.ports.mark_ports.Goals as goal

pub loop-port-preserved : goal.loop-port-preserved
loop-port-preserved c =
    let port = get_or c.args.ports.now c.loop-port.port-index 0 in
    let within : port < length c.loop-port.entries.items = omega (arith, (c.type_inv.ports c.loop-port.port-index).fits, c.requires.entry_each, c.loop-port.invariant.as_many) in
    marks_port_more c.args.ports.now c.loop-port.port-index 0 _ _ _ c.loop-port-test.true c.loop-port.invariant
    (subst (λ p. Marks (λ q. port ≡ q) c.loop-port.entries.items (set c.loop-port.entries.items p true)) (sym c.from.ensures) (marks_one port c.loop-port.entries.items within))

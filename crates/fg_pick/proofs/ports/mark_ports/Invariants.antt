use Rattle.std.proofs.Common.{take}
use Rattle.std.specs.List.{Contains}
use Rattle.fg_pick.specs.Ports.{Marks}
use Rattle.fg_pick.proofs.ports.mark_ports.Given as goal

abbrev pub invariant-loop-port : goal.invariant-loop-port
invariant-loop-port l = Marks (Contains (take l.port-index l.ports)) l.fn.entries.items l.entries.items

use Rattle.std.proofs.Common.{◌≡◌, map, take}
use Rattle.fg_io.specs.MemOutlet.{empty_keeper}
use Rattle.fg_io.proofs.mem_outlet.MemOutlet.new.Given as goal

abbrev pub invariant-loop-port : goal.invariant-loop-port
invariant-loop-port l = l.keepers.items ≡ map (empty_keeper l.room) (take l.port-index l.ports)

use Rattle.std.proofs.Common.{◌≡◌, ◌++◌, length}
use Rattle.std.specs.List.{All}
use Rattle.fg_shape.specs.Playout.{Playout}
use Rattle.fg_playout.specs.State.{opening}
use Rattle.fg_board.specs.Actors.{desk_of}
use Rattle.fg_workers.specs.Crewed.{IsNewHost}
use Rattle.fg_repair.proofs.crewed.repairing.windows_on.Given as goal

abbrev pub invariant-loop-host : goal.invariant-loop-host
invariant-loop-host g l = record {
  can : (goal.iterator-loop-host g).can_next l.host-iterator;
  ends : (goal.iterator-loop-host g).is_finite l.host-iterator;
  count : length l.windows.items ≡ length l.yielded;
  rest : l.fn.hosts.items ≡ l.yielded ++ l.host-iterator.rest.items;
  new : (playout : Playout) → All (IsNewHost playout) l.fn.hosts.items
      → All (λ window. desk_of window.admitter ≡ opening playout) l.windows.items;
}

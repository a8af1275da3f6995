use Rattle.std.proofs.Common.{◌≡◌, length, map}
use Rattle.std.specs.Prelude.{⊤}
use Rattle.std.specs.List.{All}
use Rattle.fg_shape.specs.Playout.{Playout}
use Rattle.fg_workers.specs.Crewed.{IsNewHost, HasNoPass}
use Rattle.fg_workers.proofs.Crewing.{Reached}
use Rattle.fg_workers.proofs.opening.open_tallies.Given as goal

abbrev pub invariant-loop-i : goal.invariant-loop-i
invariant-loop-i l = record {
  count : length l.tallies.items ≡ l.i;
  turns : map (λ host. host.admitter.seat.turn) l.hosts ≡ map (λ host. host.admitter.seat.turn) l.fn.hosts;
  left : Reached (λ _. ⊤) HasNoPass l.i l.hosts;
  new : (playout : Playout) → All (IsNewHost playout) l.fn.hosts → All (IsNewHost playout) l.hosts;
}

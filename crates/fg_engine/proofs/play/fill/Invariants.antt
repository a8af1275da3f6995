use Rattle.std.proofs.Common.{◌≡◌, ◌++◌, take}
use Rattle.std.specs.List.{flat_map}
use Rattle.fg_results.specs.Flow.{shown_payload}
use Rattle.fg_engine.specs.Steps.{with_shown}
use Rattle.fg_engine.proofs.play.fill.Given as goal

abbrev pub invariant-loop-i : goal.invariant-loop-i
invariant-loop-i g l = record {
  counts : l.sum ≡ with_shown l.fn.sum l.played.first (take l.i (g.D.WindowState.shows l.window l.played));
  lane : g.B.TakesPayloads.bytes l.piece ≡ g.B.TakesPayloads.bytes l.fn.piece ++ flat_map shown_payload (take l.i (g.D.WindowState.shows l.window l.played));
}

use Rattle.std.proofs.Common.{◌≡◌, length}
use Rattle.fg_engine.proofs.Standing.{AreNew}
use Rattle.fg_engine.proofs.engine.flows_over.Given as goal

abbrev pub invariant-loop-window : goal.invariant-loop-window
invariant-loop-window g l = record {
  long : length l.flows.items ≡ length l.yielded;
  each : AreNew l.plan (length l.flows.items) l.flows.items;
}

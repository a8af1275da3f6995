use Rattle.std.proofs.Common.{◌≡◌, ◌*◌, ◌≤◌, length, take}
use Rattle.std.specs.List.{flat_map}
use Rattle.fg_trace.specs.Trace.{spelling}
use Rattle.fg_thin.specs.Thinned.{is_lost, without}
use Rattle.fg_thin.proofs.thinned.outgoing.spell_all.Given as goal

abbrev pub invariant-loop-i : goal.invariant-loop-i
invariant-loop-i l = record {
  length : length l.into ≡ 4096;
  within : l.end ≤ 1356 * l.i;
  spelled : take l.end l.into ≡ flat_map spelling (without (is_lost l.lost) l.first (take l.i l.batch));
}

use Rattle.std.proofs.Common.{◌≡◌, ◌++◌, take, drop}
use Rattle.fg_streams.specs.Bursts.{placed}
use Rattle.fg_streams.proofs.bursts.place_among.Given as goal

abbrev pub invariant-loop-i : goal.invariant-loop-i
invariant-loop-i l = placed l.burst l.longest ≡ take l.i l.longest ++ placed l.burst (drop l.i l.longest)

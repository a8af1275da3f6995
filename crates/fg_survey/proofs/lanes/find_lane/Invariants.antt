use Rattle.std.proofs.Common.{◌≡◌, drop, map}
use Rattle.fg_survey.specs.Lanes.{has_port, port_of}
use Rattle.fg_survey.proofs.lanes.find_lane.Given as goal

abbrev pub invariant-loop-i : goal.invariant-loop-i
invariant-loop-i l = has_port (map port_of l.lanes) l.port ≡ has_port (map port_of (drop l.i l.lanes)) l.port

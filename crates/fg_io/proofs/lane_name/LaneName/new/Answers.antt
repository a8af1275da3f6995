-- A port has at most five digits.
use Rattle.std.proofs.Common.{◌≤◌, length, arith}
use Rattle.std.specs.Fmt.{decimal}
use Rattle.std.proofs.lemmas.Fmt.{length-decimal-le}
use Rattle.std.proofs.lemmas.Grind.{common_steps}
use Rattle.fg_io.proofs.lane_name.LaneName.new.Goals as goal

pub push_decimal-requires : goal.push_decimal-requires
push_decimal-requires c = let short : length (decimal c.args.port) ≤ 5 = length-decimal-le 5 c.args.port (omega arith) (omega arith) (omega arith) in omega arith

pub push-requires-clause-room : goal.push-requires-clause-room
push-requires-clause-room c = let short : length (decimal c.args.port) ≤ 5 = length-decimal-le 5 c.args.port (omega arith) (omega arith) (omega arith) in
    grind (arith, common_steps)

pub push-requires-2-clause-room : goal.push-requires-2-clause-room
push-requires-2-clause-room c = let short : length (decimal c.args.port) ≤ 5 = length-decimal-le 5 c.args.port (omega arith) (omega arith) (omega arith) in
    grind (arith, common_steps)

pub push-requires-3-clause-room : goal.push-requires-3-clause-room
push-requires-3-clause-room c = let short : length (decimal c.args.port) ≤ 5 = length-decimal-le 5 c.args.port (omega arith) (omega arith) (omega arith) in
    grind (arith, common_steps)

use Rattle.std.proofs.Common.{◌≡◌, ◌+◌, Some, arith}
use Rattle.fg_unwrap.specs.Position.{position_of}
use Rattle.fg_unwrap.proofs.PositionLemmas.{told_position}
use Rattle.fg_unwrap.proofs.position.Goals as goal

-- src/lib.rt:23:1
pub returns-then-ahead-lt-HALF-clause-some : goal.returns-then-ahead-lt-HALF-clause-some
returns-then-ahead-lt-HALF-clause-some c =
    let value : Some (c.args.top + c.from.result) ≡ position_of c.args.top c.args.top_seq c.args.seq = grind arith in
    (told_position c.args.top c.args.top_seq c.args.seq _ c.ranges.top_seq.fits value).0

-- src/lib.rt:23:1
pub returns-else-ahead-lt-HALF-clause-some : goal.returns-else-ahead-lt-HALF-clause-some
returns-else-ahead-lt-HALF-clause-some c =
    let value : c.checked_sub.result ≡ position_of c.args.top c.args.top_seq c.args.seq = grind arith in
    (told_position c.args.top c.args.top_seq c.args.seq _ c.ranges.top_seq.fits value).0

-- src/lib.rt:23:1
pub returns-else-ahead-lt-HALF-clause-none : goal.returns-else-ahead-lt-HALF-clause-none
returns-else-ahead-lt-HALF-clause-none c =
    let value : c.checked_sub.result ≡ position_of c.args.top c.args.top_seq c.args.seq = grind arith in
    (told_position c.args.top c.args.top_seq c.args.seq _ c.ranges.top_seq.fits value).1

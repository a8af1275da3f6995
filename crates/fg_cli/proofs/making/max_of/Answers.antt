use Rattle.std.proofs.Common.{arith}
use Rattle.fg_cli.proofs.Ranges.{max_in}
use Rattle.fg_cli.proofs.making.max_of.Goals as goal

pub returns-clause-fits : goal.returns-clause-fits
returns-clause-fits c =
    let range = max_in c.args.settings.now c.requires.ranges in
    (omega (arith, range, c.number.ensures.value), omega (arith, range, c.number.ensures.value))

use Rattle.std.proofs.Common.{arith}
use Rattle.fg_cli.proofs.Ranges.{window_in, depth_in, workers_in}
use Rattle.fg_cli.proofs.making.plan.Goals as goal

pub returns-clause-fits : goal.returns-clause-fits
returns-clause-fits c =
    let window = window_in c.args.settings.now c.requires.ranges in
    let depth = depth_in c.args.settings.now c.requires.ranges in
    let workers = workers_in c.args.settings.now c.requires.ranges in
    record {
      table = c.requires.table;
      playout = record {
        window = (omega (arith, window, c.number-window.ensures.value), omega (arith, window, c.number-window.ensures.value));
        depth = (
          omega (arith, c.requires.deep, c.number-window.ensures.value, c.number-depth.ensures.value),
          omega (arith, depth, c.number-depth.ensures.value),
        );
      };
      workers = omega (arith, workers, c.number-workers.ensures.value);
      max = (c.requires.least, c.requires.greatest);
    }

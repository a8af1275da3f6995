use Rattle.std.proofs.Common.{◌∙◌, arith, rules}
use Rattle.std.proofs.lemmas.Grind.{common_steps}
use Rattle.fg_cli.specs.declared.grammar.Command.TheVariants as command
use Rattle.fg_cli.proofs.Lines.{in_ranges}
use Rattle.fg_cli.proofs.Ranges.{datagrams_in, loss_in}
use Rattle.fg_cli.proofs.making.sample.Goals as goal

pub returns : goal.returns
returns c =
    let ranges = in_ranges command.Sample c.args.settings.now c.requires.known in
    let datagrams = datagrams_in c.args.settings.now ranges in
    let loss = loss_in c.args.settings.now ranges in
    record {
      order = grind (arith, common_steps);
      fits = (
        omega (arith, datagrams, c.number-datagrams.ensures.value),
        omega (arith, datagrams, c.number-datagrams.ensures.value),
        omega (arith, loss, c.number-loss.ensures.value),
        record {
          fits = c.plan-plan.ensures.fits;
          flow = c.plan-plan.ensures.plan.flows ∙ c.in_ok-table.ensures.flows;
          max = c.plan-plan.ensures.plan.max;
        },
      );
      faults = search rules;
    }

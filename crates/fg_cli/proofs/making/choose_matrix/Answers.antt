use Rattle.std.proofs.Common.{arith, rules}
use Rattle.std.proofs.lemmas.Grind.{common_steps}
use Rattle.fg_cli.specs.declared.grammar.Command.TheVariants as command
use Rattle.fg_cli.proofs.Lines.{in_ranges}
use Rattle.fg_cli.proofs.Ranges.{burst_in, most_in}
use Rattle.fg_cli.proofs.making.choose_matrix.Goals as goal

pub returns : goal.returns
returns c =
    let ranges = in_ranges command.ChooseMatrix c.args.settings.now c.requires.known in
    let burst = burst_in c.args.settings.now ranges c.requires.whole.whole in
    let most = most_in c.args.settings.now ranges c.requires.whole.whole in
    record {
      order = grind (arith, common_steps);
      fits = (
        omega (arith, burst, c.number-burst.ensures.value),
        omega (arith, burst, c.number-burst.ensures.value),
        omega (arith, most, c.number-most.ensures.value),
        omega (arith, most, c.number-most.ensures.value),
      );
      faults = search rules;
    }

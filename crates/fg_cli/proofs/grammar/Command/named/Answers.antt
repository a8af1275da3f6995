use Rattle.std.proofs.Common.{ap, sym, ◌∙◌, get_or, length, arith}
use Rattle.fg_cli.specs.declared.grammar.Command.TheVariants as command
use Rattle.fg_cli.specs.Grammar.{command_text}
use Rattle.fg_cli.proofs.Keys.{command_of_text, command_place, command_place_below}
use Rattle.fg_cli.proofs.grammar.Command.named.Goals as goal

pub returns-clause-none : goal.returns-clause-none
returns-clause-none c own e =
    let all = c.all-command-items.ensures in
    let at = command_place own in
    let found = ap (λ l. get_or l at command.Repair) all ∙ command_of_text own in
    c.loop-command.invariant at (omega (arith, command_place_below own, ap length all, c.loop-command-test.false))
    (e ∙ sym (ap (λ k. command_text k) found))

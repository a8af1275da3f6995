use Rattle.std.proofs.Common.{List, ℕ, length, subst, sym, ap, arith}
use Rattle.std.specs.List.{All}
use Rattle.fg_shape.specs.Kind.{IsFlowPort}
use Rattle.fg_cli.specs.declared.grammar.Key.TheVariants as key
use Rattle.fg_cli.proofs.Ranges.{flows_in}
use Rattle.fg_cli.proofs.making.selection.Goals as goal

pub returns-clause-fits : goal.returns-clause-fits
returns-clause-fits c = record {
  flows = subst (λ (l : List ℕ). All IsFlowPort l) (sym c.in_ok-flows.ensures) (flows_in c.args.settings.now c.requires.ranges);
  few_flows = omega (arith, c.requires.few key.PickedFlow, ap (λ (l : List ℕ). length l) c.in_ok-flows.ensures);
  few_ports = omega (arith, c.requires.few key.PickedPort, ap (λ (l : List ℕ). length l) c.in_ok-named.ensures);
  few_sources = omega (arith, c.requires.few key.PickedSource, ap (λ (l : List ℕ). length l) c.in_ok-left.ensures);
  few_without = omega (arith, c.requires.few key.Without, ap (λ (l : List ℕ). length l) c.in_ok-without.ensures);
}

use Rattle.std.proofs.Common.{sym, ap, ◌∙◌, eq-eqb}
use Rattle.std.proofs.lemmas.Bool.Decides.{Decides-eqb}
use Rattle.std.specs.FinMap.{get}
use Rattle.fg_buffer.specs.LiveEquations.{live_of}
use Rattle.fg_core.proofs.flow.is_held.Goals as goal

pub returns-then-line-key : goal.returns-then-line-key
returns-then-line-key c = (
  λ is. (
    live_of c.in-Some.line.now,
    ap (get c.args.desk.now.state.equations) (sym c.if-line-key.true) ∙ c.in-Some.ensures.some.0,
    c.in-Some.ensures.some.1,
    (Decides-eqb c.args.key.epoch c.epoch.result).0 is ∙ c.epoch.ensures,
  ),
  λ held. eq-eqb c.args.key.epoch c.epoch.result (held.3 ∙ sym c.epoch.ensures),
)

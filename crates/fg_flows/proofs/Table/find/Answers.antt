use Rattle.std.proofs.Common.{List, ℕ, IfSome, IfNone, ◌∙◌, subst}
use Rattle.fg_shape.specs.declared.kind.Kind.{Kind}
use Rattle.fg_flows.specs.Flows.{IsPortOf}
use Rattle.fg_flows.proofs.FlowLemmas.{found_by_index, none_by_index}
use Rattle.fg_flows.proofs.Table.find.Goals as goal

pub returns-clause-found : goal.returns-clause-found
returns-clause-found c =
    let P : List ℕ → Type 0 = λ flows. IfSome c.copied.result (λ owner. IsPortOf flows c.args.port owner.0 owner.1) in
    subst P c.self.view_is
    (found_by_index c.self.inside.flows.items c.args.port c.self.inside.owners c.copied.result c.self.invariant.1 (c.copied.ensures ∙ c.get.ensures.value))

pub returns-clause-none : goal.returns-clause-none
returns-clause-none c =
    let P : List ℕ → Type 0 = λ flows. IfNone c.copied.result ((i : ℕ) (kind : Kind) → IsPortOf flows c.args.port i kind → ⊥) in
    subst P c.self.view_is
    (none_by_index c.self.inside.flows.items c.args.port c.self.inside.owners c.copied.result c.self.invariant.1 (c.copied.ensures ∙ c.get.ensures.value))

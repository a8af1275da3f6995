use Rattle.std.proofs.Common.{sym, subst}
use Rattle.std.specs.Prelude.{IsSomeAnd}
use Rattle.fg_turn.proofs.Keeping.{closed_with}
use Rattle.fg_turn.proofs.steps.gather.Goals as goal

pub returns : goal.returns
returns g c =
    let v = c.args.owner.me.0 in
    let is = closed_with g.S.Guarded.owner g.S.Guarded.grows _ _ v _ _ _ c.requires.owner.0 c.requires.owner.1 c.requires.back c.close_with-closed.ensures.values.2 c.take-state.ensures.value in
    subst (λ o. IsSomeAnd o (λ x. g.S.Guarded.owner v.calls x × g.S.Guarded.grows v.told x)) (sym is.1) (is.2, is.3)

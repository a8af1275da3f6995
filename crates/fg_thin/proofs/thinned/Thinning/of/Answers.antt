use Rattle.std.proofs.Common.{◌≡◌, refl, true, false, sym, ◌∙◌}
use Rattle.fg_thin.proofs.TakenLemmas.{new_left}
use Rattle.fg_thin.proofs.thinned.Thinning.of.Goals as goal

pub invariant_of-result : goal.invariant_of-result
invariant_of-result g c =
    (c.self.invariant.way (g.S.Source.left c.args.inner), λ told. absurd (let a : true ≡ false = sym told ∙ c.self.invariant.untold in cc))

pub returns-clause-left : goal.returns-clause-left
returns-clause-left g c =
    let taking = c.self.inside.taking in
    let is = c.self.invariant in
    rw (← c.self.view_is)
    (new_left taking.sender.encoder.settings taking.sender.encoder.settings taking.sender.losses c.self.inside.losses taking.reader.max taking.reader.max _ _ (g.S.Source.left c.args.inner)
    refl is.lost refl is.given (is.stream (g.S.Source.left c.args.inner)))

use Rattle.std.proofs.Common.{◌≡◌, true, IfSome, subst}
use Rattle.fg_thin.specs.ThinnedSource.{EndsFor, ThinnedState}
use Rattle.fg_thin.proofs.TakenLemmas.{ends_for}
use Rattle.fg_thin.proofs.thinned.Thinned.fault.Goals as goal

pub returns-clause-ending : goal.returns-clause-ending
returns-clause-ending g c =
    let taking = c.self.inside.taking in
    let P : ThinnedState _ → Type 0 = λ s. s.told ≡ true → IfSome s.stream (λ bytes. EndsFor taking.fault s.settings.packets s.max bytes) in
    subst P c.self.view_is (ends_for taking.reader taking.sender taking.history.payloads taking.told taking.fault _ c.payloads_are_the_cut.ensures.cut c.self.invariant.0)

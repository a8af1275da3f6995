use Rattle.std.proofs.Common.{IfSome, subst}
use Rattle.fg_encode.specs.Reading.{IsStreamReadFor}
use Rattle.fg_thin.specs.ThinnedSource.{ThinnedState, ending_told}
use Rattle.fg_thin.proofs.TakenLemmas.{read_for}
use Rattle.fg_thin.proofs.thinned.Thinned.into_inner.Goals as goal

pub returns-clause-reads : goal.returns-clause-reads
returns-clause-reads g c =
    let taking = c.self.inside.taking in
    let P : ThinnedState _ → Type 0 = λ s.
    IfSome s.stream (λ bytes. IsStreamReadFor s.max (ending_told s.told s.fault) bytes (g.S.Source.left c.self.inside.inner)) in
    subst P c.self.view_is (read_for taking.reader taking.sender taking.history.payloads taking.told taking.fault _ c.read_as_far_as_needed.ensures c.self.invariant.0)

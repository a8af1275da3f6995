use Rattle.fg_io.proofs.FaultLemmas.{err_more, ok_more}
use Rattle.fg_walk.proofs.Records.{begun, breaks_at_begin}
use Rattle.fg_walk.proofs.trace.AnyWalking.begin.Goals as goal

pub returns-clause-underway : goal.returns-clause-underway
returns-clause-underway g c =
    ok_more c.begin.result _ _ (λ told reader first now new. begun g.T.Telling.has_told c.begin.new.self reader first now _ _ new.1 told) c.begin.ensures.told

pub returns-clause-part : goal.returns-clause-part
returns-clause-part g c =
    err_more c.begin.result _ _ (λ part reader first now new. breaks_at_begin c.read_as_far_as_needed.ensures.after g.T.Telling.part (g.T.Telling.given c.args.self.now) reader first now _ _ new.1 part) c.begin.ensures.part

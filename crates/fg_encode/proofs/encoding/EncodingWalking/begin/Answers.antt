use Rattle.fg_io.proofs.FaultLemmas.{err_more, ok_more}
use Rattle.fg_encode.proofs.Encodings.{begun, breaks_at_magic}
use Rattle.fg_encode.proofs.encoding.EncodingWalking.begin.Goals as goal

pub returns-clause-underway : goal.returns-clause-underway
returns-clause-underway g c =
    ok_more c.add.result _ _ (λ sent reader first now new. begun c.args.self.now reader c.add.new.self first now _ _ sent new) c.add.ensures.sent

pub returns-clause-part : goal.returns-clause-part
returns-clause-part g c =
    err_more c.add.result _ _ (λ part reader first now new. breaks_at_magic c.args.self.now reader first now _ _ part new) c.add.ensures.part

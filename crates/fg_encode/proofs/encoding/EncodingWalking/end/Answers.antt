use Rattle.fg_io.proofs.FaultLemmas.{err_more, ok_more}
use Rattle.fg_encode.proofs.Encodings.{all_encoded, breaks_at_end}
use Rattle.fg_encode.proofs.encoding.EncodingWalking.end.Goals as goal

pub returns-clause-whole : goal.returns-clause-whole
returns-clause-whole g c =
    ok_more c.flush.result _ _ (λ gained reader first now before all. all_encoded c.args.self.now reader c.args._ending first now before _ _ gained all) c.flush.ensures.whole

pub returns-clause-part : goal.returns-clause-part
returns-clause-part g c =
    err_more c.flush.result _ _ (λ part reader first now before all. breaks_at_end c.one_cut.ensures c.args.self.now reader c.args._ending first now before _ _ part all) c.flush.ensures.part

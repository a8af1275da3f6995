use Rattle.fg_io.proofs.FaultLemmas.{err_more, ok_more}
use Rattle.fg_pcap.proofs.Underway.{breaks_at_end, converted}
use Rattle.fg_pcap.proofs.conversion.ConversionWalking.end.Goals as goal

pub returns-clause-whole : goal.returns-clause-whole
returns-clause-whole g c =
    ok_more c.flush.result _ _ (λ gained reader first now before all. converted c.args.self.now.format reader first now c.args._ending c.args.self.now.trace before _ _ gained all) c.flush.ensures.whole

pub returns-clause-part : goal.returns-clause-part
returns-clause-part g c =
    err_more c.flush.result _ _ (λ part reader first now before all. breaks_at_end c.args.self.now.format reader first now c.args._ending c.args.self.now.trace before _ _ part all) c.flush.ensures.part

use Rattle.fg_io.proofs.FaultLemmas.{err_more, ok_more}
use Rattle.fg_pcap.proofs.Underway.{breaks_at_magic, underway_start}
use Rattle.fg_pcap.proofs.conversion.ConversionWalking.begin.Goals as goal

pub returns-clause-underway : goal.returns-clause-underway
returns-clause-underway g c =
    ok_more c.add.result _ _ (λ sent reader first now new. underway_start c.args.self.now.format reader first now c.args.self.now.trace c.add.new.self _ _ sent new) c.add.ensures.sent

pub returns-clause-part : goal.returns-clause-part
returns-clause-part g c =
    err_more c.add.result _ _ (λ part reader first now new. breaks_at_magic c.args.self.now.format reader first now c.args.self.now.trace _ _ part new) c.add.ensures.part

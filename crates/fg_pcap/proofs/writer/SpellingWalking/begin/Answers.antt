use Rattle.fg_io.proofs.FaultLemmas.{err_more, ok_more}
use Rattle.fg_pcap.proofs.Writing.{breaks_at_header, file_header_is, underway}
use Rattle.fg_pcap.proofs.writer.SpellingWalking.begin.Goals as goal

pub returns-clause-underway : goal.returns-clause-underway
returns-clause-underway g c =
    ok_more c.add.result _ _ (λ sent reader first now new. underway first now reader c.args.self.now c.add.new.self _ _ _ file_header_is sent new) c.add.ensures.sent

pub returns-clause-part : goal.returns-clause-part
returns-clause-part g c =
    err_more c.add.result _ _ (λ part reader first now new. breaks_at_header first now reader c.args.self.now _ _ _ file_header_is part new) c.add.ensures.part

use Rattle.fg_io.proofs.FaultLemmas.{err_more, ok_more}
use Rattle.fg_monitor.proofs.Walking.{breaks_at_end, monitored}
use Rattle.fg_monitor.proofs.walk.MonitoringWalking.end.Goals as goal

pub returns-clause-whole : goal.returns-clause-whole
returns-clause-whole g c =
    ok_more c.close.result _ _ (λ gained reader first now before all. monitored c.args.self.now reader c.args.ending first now before _ _ c.fed.result c.fed.ensures all gained) c.close.ensures.whole

pub returns-clause-part : goal.returns-clause-part
returns-clause-part g c =
    err_more c.close.result _ _ (λ part reader first now before all.
    breaks_at_end c.one_cut.ensures c.one_text.ensures c.args.self.now reader c.args.ending first now before _ _ c.fed.result c.fed.ensures all part) c.close.ensures.part

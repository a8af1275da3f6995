use Rattle.fg_io.proofs.FaultLemmas.{err_more, ok_more}
use Rattle.fg_walk.proofs.Records.{breaks_at_end, walked_whole}
use Rattle.fg_walk.proofs.trace.AnyWalking.end.Goals as goal

pub end-requires-clause-told : goal.end-requires-clause-told
end-requires-clause-told g c = let all = c.requires.4 in (all.records, c.requires.3, all.few, all.told)

pub returns-clause-whole : goal.returns-clause-whole
returns-clause-whole g c =
    ok_more c.end.result _ _ (λ whole reader first now before all.
    walked_whole g.T.Telling.has_told g.T.Telling.whole c.args.self.now c.end.new.self reader c.args.ending first now before _ _ all (whole all.records all.end before all.answer_is all.told)) c.end.ensures.whole

pub returns-clause-part : goal.returns-clause-part
returns-clause-part g c =
    err_more c.end.result _ _ (λ part reader first now before all.
    breaks_at_end c.one_trace.ensures g.T.Telling.has_told g.T.Telling.part c.args.self.now (g.T.Telling.given c.args.self.now) reader c.args.ending first now before _ _ all (part all.records before all.told)) c.end.ensures.part

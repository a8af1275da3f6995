use Rattle.fg_streams.proofs.Closing.{ended_none}
use Rattle.fg_streams.proofs.gaps.Gaps.end_burst.Goals as goal

pub returns-in-None-clause-ended : goal.returns-in-None-clause-ended
returns-in-None-clause-ended c = λ times h. ended_none c.args.self.now times c.in-None.is h

use Rattle.fg_trace.proofs.Reaching.{unread, before, after}
use Rattle.fg_trace.proofs.laws.read_as_far_as_needed.Goals as goal

pub returns-clause-unread : goal.returns-clause-unread
returns-clause-unread c = unread

pub returns-clause-before : goal.returns-clause-before
returns-clause-before c = before

pub returns-clause-after : goal.returns-clause-after
returns-clause-after c = after

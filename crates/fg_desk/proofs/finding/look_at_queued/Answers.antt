use Rattle.fg_desk.proofs.Findings.{finds_first}
use Rattle.fg_desk.proofs.finding.look_at_queued.Goals as goal

pub returns-then-is_idle-clause-finds : goal.returns-then-is_idle-clause-finds
returns-then-is_idle-clause-finds c = finds_first c.args.buffer.now c.args.lines.now c.args.watches.now c.requires.settled c.requires.watched

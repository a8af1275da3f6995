use Rattle.fg_playout.proofs.RunsBegin.{fresh_begins, first_begins, others_go_on}
use Rattle.fg_playout.proofs.Senders.{fresh_is_decided}
use Rattle.fg_playout.proofs.laws.runs_begin.Goals as goal

pub returns : goal.returns
returns c = search (fresh_is_decided, fresh_begins, first_begins, others_go_on)

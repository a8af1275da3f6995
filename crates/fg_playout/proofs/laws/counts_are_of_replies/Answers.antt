use Rattle.fg_playout.proofs.Counts.{counts_are_of_replies}
use Rattle.fg_playout.proofs.laws.counts_are_of_replies.Goals as goal

pub returns : goal.returns
returns c = counts_are_of_replies

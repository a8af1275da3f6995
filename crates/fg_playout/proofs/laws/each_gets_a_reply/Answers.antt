use Rattle.fg_playout.proofs.Reaching.{each_gets_a_reply}
use Rattle.fg_playout.proofs.laws.each_gets_a_reply.Goals as goal

pub returns : goal.returns
returns c = each_gets_a_reply

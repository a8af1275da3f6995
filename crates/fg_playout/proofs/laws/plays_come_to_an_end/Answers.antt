use Rattle.fg_playout.proofs.RunsExist.{plays_due_exist, plays_before_exist, flush_exists, plays_held_exist}
use Rattle.fg_playout.proofs.laws.plays_come_to_an_end.Goals as goal

pub returns : goal.returns
returns c = record {
  due = plays_due_exist c.peelings_are_told.ensures;
  flush = flush_exists c.peelings_are_told.ensures;
  before = plays_before_exist c.peelings_are_told.ensures;
  held = plays_held_exist c.peelings_are_told.ensures;
}

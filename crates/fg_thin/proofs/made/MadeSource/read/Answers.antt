use Rattle.fg_thin.proofs.MadeLemmas.{read_more}
use Rattle.fg_thin.proofs.made.MadeSource.read.Goals as goal

pub loop-count-preserved : goal.loop-count-preserved
loop-count-preserved c =
    let was = c.loop-count.invariant in
    let both =
    read_more c.args.self.now c.loop-count.self c.give-count.new.self c.loop-count.into c.give-count.new.into c.loop-count.count c.give-count.result was.within c.give-count.auto.into c.give-count.ensures.within was.given c.give-count.ensures.bytes in
    record { within = both.0; given = both.1 }

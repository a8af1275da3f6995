use Rattle.fg_desk.proofs.FoundAll.{recovered, watched_after}
use Rattle.fg_desk.proofs.closing.find.Goals as goal

pub returns-clause-found : goal.returns-clause-found
returns-clause-found c =
    recovered c.args.buffer.now c.args.lines.now c.look_at_queued-sound.new.buffer c.look_at_queued-sound.new.lines
    c.look_at_queued-sound.new.watches c.look_at_queued-sound.result c.look_at_queued-sound.ensures.finds c.look_at_queued-sound.ensures.idle
    c.requires.within c.requires.received c.requires.cached c.is_solution-solved.ensures.facts c.maximal_peelings_are_tested.ensures
    c.confluence.ensures.solvable c.is_solution-solved.result c.is_solution-solved.ensures.yes c.is_solution-solved.ensures.no

pub returns-clause-watched : goal.returns-clause-watched
returns-clause-watched c =
    watched_after c.args.buffer.now c.args.lines.now c.look_at_queued-sound.new.buffer c.look_at_queued-sound.new.lines
    c.look_at_queued-sound.new.watches c.look_at_queued-sound.result c.look_at_queued-sound.ensures.finds c.look_at_queued-sound.ensures.idle
    c.is_solution-solved.result c.queue_unless.new.watches (λ is. (c.is_solution-solved.ensures.yes is).0)
    c.queue_unless.ensures.same c.queue_unless.ensures.all

use Rattle.fg_peel.specs.Slots.{equation_of}
use Rattle.fg_buffer.specs.PlayoutBuffer.{buffer_words}
use Rattle.fg_buffer.specs.LiveEquations.{live_of}
use Rattle.fg_desk.proofs.WatchedLines.{found_near}
use Rattle.fg_desk.proofs.finding.visit.Goals as goal

pub look-look-requires : goal.look-look-requires
look-look-requires c =
    let line = c.in-Some.line.now in
    let i = c.requires.within line.serial (live_of line) c.in-Some.ensures.some.0 in
    record { within = record { shape = i.shape; near = i.near; based = i.based } }

pub follow-requires-clause-near : goal.follow-requires-clause-near
follow-requires-clause-near c =
    let line = c.in-Some.line.now in
    let is = c.in-Some.ensures.some.0 in
    let facts = c.in-Some.ensures.facts in
    found_near (buffer_words c.args.buffer.now) (buffer_words c.look-look.new.self) (equation_of line) c.look-look.result
    (facts.shape line.serial (live_of line) is) (facts.base line.serial (live_of line) is) c.look-look.ensures.look

use Rattle.fg_desk.specs.Inside.{state_of}
use Rattle.fg_desk.specs.Parts.{parts_of}
use Rattle.fg_desk.proofs.DeskCloses.{timed_after, play_after, holds_after, sound_after, changes_after}
use Rattle.fg_desk.proofs.DeskRecovers.{are_in_buffer, still_in_buffer}
use Rattle.fg_desk.proofs.DeskWords.{known_are_media}
use Rattle.fg_desk.specs.Closing.{ClosesFirst}
use Rattle.fg_desk.proofs.Relined.{in_buffer_still, closes_still}
use Rattle.fg_desk.proofs.desk.Desk.play_first.Goals as goal
use Rattle.fg_desk.proofs.desk.Desk.play_first.Goals.{After-close_first}

pub find-found-requires-clause-received : goal.find-found-requires-clause-received
find-found-requires-clause-received c = known_are_media (state_of (parts_of c.self.inside)) c.self.invariant.sound.facts

pub find-found-requires-clause-within : goal.find-found-requires-clause-within
find-found-requires-clause-within c = are_in_buffer (parts_of c.self.inside) c.self.invariant.sound

pub close_first-requires-clause-within : goal.close_first-requires-clause-within
close_first-requires-clause-within c =
    in_buffer_still c.self.inside.lines c.find-found.new.lines c.find-found.ensures.live c.find-found.new.buffer
    (still_in_buffer (parts_of c.self.inside) c.self.invariant.sound c.find-found.new.buffer c.find-found.result
    c.find-found.ensures.found)

pub close_first-requires-clause-settled : goal.close_first-requires-clause-settled
close_first-requires-clause-settled c serial live is settled = (c.find-found.ensures.settled serial live is settled).0

-- What is closed is said of the lines as they were before.
closes :
    (c : After-close_first)
    → ClosesFirst c.find-found.result c.args.count c.find-found.new.buffer c.self.inside.lines c.self.inside.waiting
    c.self.inside.epoch c.close_first.result c.close_first.new.buffer c.close_first.new.lines c.close_first.new.waiting
    c.close_first.new.epoch
closes c =
    closes_still c.self.inside.lines c.find-found.new.lines c.find-found.ensures.live c.find-found.result c.args.count
    c.find-found.new.buffer c.self.inside.waiting c.self.inside.epoch c.close_first.result c.close_first.new.buffer
    c.close_first.new.lines c.close_first.new.waiting c.close_first.new.epoch c.close_first.ensures.closes

pub returns-clause-play : goal.returns-clause-play
returns-clause-play c =
    play_after c.self.inside c.self.invariant c.args.self.now c.self.view_is c.requires.room c.find-found.new.buffer
    c.find-found.result c.find-found.ensures.found c.find-found.ensures.laws c.args.count c.requires.most c.close_first.result
    c.close_first.new.buffer c.close_first.new.lines c.close_first.new.waiting c.close_first.new.epoch (closes (goal.at.returns-clause-play c).After-close_first)

pub returns-clause-changes : goal.returns-clause-changes
returns-clause-changes c =
    changes_after c.self.inside c.self.invariant c.args.self.now c.self.view_is c.requires.room c.find-found.new.buffer
    c.find-found.result c.find-found.ensures.found c.find-found.ensures.laws c.args.count c.requires.most c.close_first.result
    c.close_first.new.buffer c.close_first.new.lines c.close_first.new.waiting c.close_first.new.epoch (closes (goal.at.returns-clause-changes c).After-close_first)

pub invariant_of-self : goal.invariant_of-self
invariant_of-self c = record {
  sound = sound_after c.self.inside c.self.invariant c.args.self.now c.self.view_is c.requires.room c.find-found.new.buffer
      c.find-found.result c.find-found.ensures.found c.find-found.ensures.laws c.args.count c.requires.most c.close_first.result
      c.close_first.new.buffer c.close_first.new.lines c.close_first.new.waiting c.close_first.new.epoch (closes (goal.at.invariant_of-self c).After-close_first)
      (holds_after c.self.inside c.self.invariant c.args.self.now c.self.view_is c.requires.room c.find-found.new.buffer
      c.find-found.result c.find-found.ensures.found c.find-found.ensures.laws c.args.count c.requires.most c.close_first.result
      c.close_first.new.buffer c.close_first.new.lines c.close_first.new.waiting c.close_first.new.epoch (closes (goal.at.invariant_of-self c).After-close_first)
      c.requires.started);
  timed = timed_after c.self.inside c.self.invariant c.args.self.now c.self.view_is c.requires.room c.find-found.new.buffer
      c.find-found.result c.find-found.ensures.found c.find-found.ensures.laws c.args.count c.requires.most c.close_first.result
      c.close_first.new.buffer c.close_first.new.lines c.close_first.new.waiting c.close_first.new.epoch (closes (goal.at.invariant_of-self c).After-close_first);
  watched = c.close_first.ensures.watched;
}

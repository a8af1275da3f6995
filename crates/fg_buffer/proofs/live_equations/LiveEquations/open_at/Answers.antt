use Rattle.std.proofs.Common.{subst}
use Rattle.fg_buffer.specs.LiveEquations.{LiveState, AreLive}
use Rattle.fg_buffer.proofs.LiveCalls.{are_live}
use Rattle.fg_buffer.proofs.LiveWatched.{told_open, told_none_open}
use Rattle.fg_buffer.proofs.live_equations.LiveEquations.open_at.Goals as goal

pub returns-clause-some : goal.returns-clause-some
returns-clause-some c =
    told_open c.self.inside.open c.self.inside.settled c.self.inside.places c.args.self.now c.self.view_is c.self.invariant.sound
    c.args.place c.find_place.result c.find_place.ensures.some

pub returns-clause-none : goal.returns-clause-none
returns-clause-none c =
    told_none_open c.self.inside.open c.self.inside.settled c.args.self.now c.self.view_is c.args.place c.find_place.result
    c.find_place.ensures.none

pub returns-clause-facts : goal.returns-clause-facts
returns-clause-facts c =
    subst (λ (s : LiveState). AreLive s) c.self.view_is
    (are_live c.self.inside.open c.self.inside.settled c.self.inside.places c.self.invariant.sound)

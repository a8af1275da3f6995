use Rattle.std.proofs.Common.{ℕ, IfSome, IfNone, subst}
use Rattle.fg_playout.specs.Held.{at_time, IsHeld, IsGreatest}
use Rattle.fg_desk.specs.Contents.{Contents}
use Rattle.fg_desk.proofs.DeskTimes.{some_will_be_held, none_will_be_held, limit_of_held}
use Rattle.fg_desk.proofs.desk.Desk.greatest_held.Goals as goal

pub returns-clause-some : goal.returns-clause-some
returns-clause-some c =
    subst (λ (s : Contents). IfSome c.held_by.result (IsGreatest (IsHeld (at_time s.state c.args.time)))) c.self.view_is
    (some_will_be_held c.self.inside c.self.invariant c.args.time c.mark.result c.held_by.result c.held_by.ensures c.mark.ensures.value)

pub returns-clause-none : goal.returns-clause-none
returns-clause-none c =
    subst (λ (s : Contents). IfNone c.held_by.result ((position : ℕ) → ¬ IsHeld (at_time s.state c.args.time) position)) c.self.view_is
    (none_will_be_held c.self.inside c.self.invariant c.args.time c.mark.result c.held_by.result c.held_by.ensures c.mark.ensures.value)

pub returns-clause-limit : goal.returns-clause-limit
returns-clause-limit c =
    limit_of_held c.self.inside c.self.invariant c.args.time c.mark.result c.held_by.result c.held_by.ensures c.mark.ensures.value

use Rattle.std.proofs.Common.{◌≢◌, sym, ap, subst, ◌∙◌}
use Rattle.fg_playout.specs.Held.{at_time}
use Rattle.fg_desk.specs.Contents.{Contents}
use Rattle.fg_desk.specs.Inside.{contents_of}
use Rattle.fg_desk.proofs.DeskTimes.{after_told_is, after_told_sound, after_told_timed, some_held, none_held, near_held}
use Rattle.fg_desk.proofs.desk.Desk.tell.Goals as goal
use Rattle.fg_desk.proofs.desk.Desk.tell.Goals.{After-tell}

module _ (c : After-tell) where
  limited : c.self.inside.waiting.hold ≢ 0
  limited = subst (λ (s : Contents). s.state.playout.hold ≢ 0) (sym c.self.view_is) c.requires

pub invariant_of-self : goal.invariant_of-self
invariant_of-self c = record {
  sound = after_told_sound c.self.inside c.self.invariant c.args.time c.mark-mark.result c.tell.result c.tell.new.waiting (limited c)
      c.tell.ensures c.mark-mark.ensures.value;
  timed = after_told_timed c.self.inside c.self.invariant c.args.time c.mark-mark.result c.tell.result c.tell.new.waiting (limited c)
      c.tell.ensures c.mark-mark.ensures.value;
  watched = c.self.invariant.watched;
}

pub returns-clause-state : goal.returns-clause-state
returns-clause-state c =
    ap contents_of
    (after_told_is c.self.inside c.self.invariant c.args.time c.mark-mark.result c.tell.result c.tell.new.waiting (limited c)
    c.tell.ensures c.mark-mark.ensures.value)
    ∙ ap (λ (s : Contents). record s { state = at_time s.state c.args.time }) c.self.view_is

pub returns-clause-some : goal.returns-clause-some
returns-clause-some c =
    some_held c.self.inside c.self.invariant c.args.time c.mark-mark.result c.tell.result c.tell.new.waiting (limited c) c.tell.ensures
    c.mark-mark.ensures.value

pub returns-clause-none : goal.returns-clause-none
returns-clause-none c =
    none_held c.self.inside c.self.invariant c.args.time c.mark-mark.result c.tell.result c.tell.new.waiting (limited c) c.tell.ensures
    c.mark-mark.ensures.value

pub returns-clause-near : goal.returns-clause-near
returns-clause-near c =
    near_held c.self.inside c.self.invariant c.args.time c.mark-mark.result c.tell.result c.tell.new.waiting (limited c) c.tell.ensures
    c.mark-mark.ensures.value

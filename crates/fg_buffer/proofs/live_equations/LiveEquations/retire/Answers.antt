use Rattle.std.proofs.Common.{◌≤◌, ℕ, inr, sym, subst}
use Rattle.fg_peel.specs.declared.Line.{Line}
use Rattle.fg_peel.specs.Live.{Survives}
use Rattle.fg_peel.specs.Slots.{equation_of}
use Rattle.fg_buffer.specs.Watches.{first_of}
use Rattle.fg_buffer.proofs.LiveWatched.{drops_same, survives_watched}
use Rattle.fg_buffer.specs.LiveEquations.{LiveState, Retires, SettledAreBased, SurviveAsWatched}
use Rattle.fg_buffer.specs.LiveInside.{AreSound, AreBetween, Drops, state_of}
use Rattle.fg_buffer.proofs.LiveCalls.{retires_sound, retires, to_retired, based_settled}
use Rattle.fg_buffer.proofs.LiveKeys.{keyed_fewer}
use Rattle.fg_buffer.proofs.live_equations.LiveEquations.retire.Goals as goal
use Rattle.fg_buffer.proofs.live_equations.LiveEquations.retire.Goals.{After-drop_settled}

pub drop_settled-requires-clause-based : goal.drop_settled-requires-clause-based
drop_settled-requires-clause-based c =
    based_settled c.self.inside.open c.self.inside.settled c.self.inside.places c.self.invariant.sound c.args.buffer.now.mark
    c.args.buffer.now.kept
    (subst (λ (s : LiveState). SettledAreBased c.args.buffer.now.mark c.args.buffer.now.kept s) (sym c.self.view_is) c.requires.based)

pub drop_settled-requires-clause-earliest : goal.drop_settled-requires-clause-earliest
drop_settled-requires-clause-earliest c line h = (c.self.invariant.between line (inr h)).0

-- The open lines that are left are those that survive.
dropped :
    (c : After-drop_settled)
    → Drops (λ line. Survives c.args.buffer.now.mark c.args.buffer.now.kept (equation_of line)) c.self.inside.open
    c.drop_closed.new.lines c.self.inside.places c.drop_closed.new.places
dropped c =
    let buffer = c.args.buffer.now in
    let watches = c.args.watches.now in
    drops_same (λ (line : Line). buffer.mark ≤ first_of watches line.place) (λ (line : Line). Survives buffer.mark buffer.kept (equation_of line))
    c.self.inside.open c.drop_closed.new.lines c.self.inside.places c.drop_closed.new.places
    (survives_watched c.self.inside.open c.self.inside.settled c.self.inside.places c.self.invariant.sound buffer.mark buffer.kept
    watches
    (subst (λ (s : LiveState). SurviveAsWatched buffer.mark buffer.kept watches s) (sym c.self.view_is) c.requires.watched))
    (subst (λ (m : ℕ). Drops (λ (line : Line). m ≤ first_of watches line.place) c.self.inside.open c.drop_closed.new.lines
    c.self.inside.places c.drop_closed.new.places) c.mark-mark.ensures.value c.drop_closed.ensures.drops)

module _ (c : After-drop_settled) where
  sound_after : AreSound c.drop_closed.new.lines c.drop_settled.new.lines c.drop_settled.new.places
  sound_after =
      retires_sound c.self.inside.open c.self.inside.settled c.self.inside.places c.self.invariant.sound c.args.buffer.now.mark
      c.args.buffer.now.kept c.drop_closed.new.lines c.drop_settled.new.lines c.drop_closed.new.places c.drop_settled.new.places
      (dropped c) c.drop_settled.ensures

  between_after : AreBetween c.self.inside.earliest c.self.inside.latest c.drop_closed.new.lines c.drop_settled.new.lines
  between_after line stands =
      c.self.invariant.between line
      (to_retired c.self.inside.open c.self.inside.settled c.self.inside.places c.self.invariant.sound c.args.buffer.now.mark
      c.args.buffer.now.kept c.drop_closed.new.lines c.drop_settled.new.lines c.drop_closed.new.places c.drop_settled.new.places
      (dropped c) c.drop_settled.ensures line stands).0

pub earliest_after-self-inside-requires-clause-unsettled : goal.earliest_after-self-inside-requires-clause-unsettled
earliest_after-self-inside-requires-clause-unsettled c =
    (sound_after (goal.at.earliest_after-self-inside-requires-clause-unsettled c).After-drop_settled).open_within

pub earliest_after-self-inside-requires-clause-settled : goal.earliest_after-self-inside-requires-clause-settled
earliest_after-self-inside-requires-clause-settled c =
    (sound_after (goal.at.earliest_after-self-inside-requires-clause-settled c).After-drop_settled).settled_within

pub earliest_after-self-inside-requires-clause-earliest : goal.earliest_after-self-inside-requires-clause-earliest
earliest_after-self-inside-requires-clause-earliest c line stands =
    (between_after (goal.at.earliest_after-self-inside-requires-clause-earliest c).After-drop_settled line stands).0

pub invariant_of-self : goal.invariant_of-self
invariant_of-self c =
    let d = (goal.at.invariant_of-self c).After-drop_settled in
    record {
      sound = sound_after d;
      keyed = record {
        count = c.self.invariant.keyed.count;
        in_first = keyed_fewer c.self.inside.keys.items c.self.inside.open c.drop_closed.new.lines
            (λ key line is. (((dropped d).left key line).0 is).0) c.self.invariant.keyed.in_first;
        in_second = keyed_fewer c.self.inside.keys.items c.self.inside.settled c.drop_settled.new.lines
            (λ key line is. ((c.drop_settled.ensures.left key line).0 is).0) c.self.invariant.keyed.in_second;
      };
      between = λ line stands. (c.earliest_after-self-inside.ensures line stands, (between_after d line stands).1);
    }

pub returns-clause-retires : goal.returns-clause-retires
returns-clause-retires c =
    let d = (goal.at.returns-clause-retires c).After-drop_settled in
    subst
    (λ (s : LiveState). Retires c.args.buffer.now.mark c.args.buffer.now.kept s
    (state_of c.drop_closed.new.lines c.drop_settled.new.lines))
    c.self.view_is
    (retires c.self.inside.open c.self.inside.settled c.self.inside.places c.self.invariant.sound c.args.buffer.now.mark
    c.args.buffer.now.kept c.drop_closed.new.lines c.drop_settled.new.lines c.drop_closed.new.places c.drop_settled.new.places
    (dropped d) c.drop_settled.ensures)

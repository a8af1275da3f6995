use Rattle.std.proofs.Common.{◌≡◌, ℕ, List, length, vec_len, sym, subst, arith}
use Rattle.std.proofs.lemmas.List.{with_items_is}
use Rattle.fg_buffer.specs.PlayoutBuffer.{buffer_words}
use Rattle.fg_buffer.specs.LiveEquations.{LiveState, Reopens}
use Rattle.fg_buffer.specs.LiveInside.{AreKeyed, state_of}
use Rattle.fg_buffer.proofs.LiveCalls.{are_live, reopens_sound, reopens, to_reopened}
use Rattle.fg_buffer.proofs.LiveKeys.{keyed_swapped}
use Rattle.fg_buffer.proofs.LiveViews.{swapped, place_of}
use Rattle.fg_buffer.proofs.live_equations.LiveEquations.reopen.Goals as goal

pub move_lines-requires-clause-numbers : goal.move_lines-requires-clause-numbers
move_lines-requires-clause-numbers c = swapped place_of c.self.inside.open c.self.inside.settled c.self.invariant.sound.numbers

pub move_lines-requires-clause-keyed : goal.move_lines-requires-clause-keyed
move_lines-requires-clause-keyed c =
    subst (λ (ks : List ℕ). AreKeyed ks c.self.inside.settled c.self.inside.open) (sym c.deref_mut.ensures.value)
    (keyed_swapped c.self.inside.keys.items c.self.inside.open c.self.inside.settled c.self.invariant.keyed)

pub invariant_of-self : goal.invariant_of-self
invariant_of-self c =
    let full : length c.move_lines.new.keys ≡ vec_len c.self.inside.keys = omega (arith, c.move_lines.ensures.keyed.count, c.self.invariant.keyed.count) in
    record {
      sound = reopens_sound c.self.inside.open c.self.inside.settled c.self.inside.places c.self.invariant.sound (buffer_words c.args.buffer.now)
          c.move_lines.new.target c.move_lines.new.source c.move_lines.ensures.moves;
      keyed = subst (λ (ks : List ℕ). AreKeyed ks c.move_lines.new.target c.move_lines.new.source) (sym (with_items_is c.self.inside.keys c.move_lines.new.keys full))
          (keyed_swapped c.move_lines.new.keys c.move_lines.new.source c.move_lines.new.target c.move_lines.ensures.keyed);
      between = λ line stands. c.self.invariant.between line
          (to_reopened c.self.inside.open c.self.inside.settled c.self.inside.places c.self.invariant.sound (buffer_words c.args.buffer.now)
          c.move_lines.new.target c.move_lines.new.source c.move_lines.ensures.moves line stands);
    }

pub returns-clause-reopens : goal.returns-clause-reopens
returns-clause-reopens c =
    let words = buffer_words c.args.buffer.now in
    subst (λ (s : LiveState). Reopens words s (state_of c.move_lines.new.target c.move_lines.new.source)) c.self.view_is
    (reopens c.self.inside.open c.self.inside.settled c.self.inside.places c.self.invariant.sound words c.move_lines.new.target c.move_lines.new.source c.move_lines.ensures.moves)

pub returns-clause-facts : goal.returns-clause-facts
returns-clause-facts c =
    are_live c.move_lines.new.target c.move_lines.new.source c.self.inside.places
    (reopens_sound c.self.inside.open c.self.inside.settled c.self.inside.places c.self.invariant.sound (buffer_words c.args.buffer.now)
    c.move_lines.new.target c.move_lines.new.source c.move_lines.ensures.moves)

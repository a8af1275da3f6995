use Rattle.std.proofs.Common.{◌≤◌, ◌-◌, ◌^◌, ◌∙◌, arith}
use Rattle.fg_buffer.proofs.LiveInserts.{none_is, none_sound}
use Rattle.fg_buffer.proofs.LiveKeys.{none_keyed}
use Rattle.fg_buffer.proofs.LiveBounds.{nothing_between}
use Rattle.fg_buffer.proofs.live_equations.LiveEquations.clear.Goals as goal

pub invariant_of-self : goal.invariant_of-self
invariant_of-self c =
    let room : 512 ≤ c.clear.new.self.capacity = omega (arith, c.self.invariant.sound.open_room, c.clear.ensures.capacity) in
    let room' : 512 ≤ c.clear-2.new.self.capacity = omega (arith, c.self.invariant.sound.settled_room, c.clear-2.ensures.capacity) in
    record {
      sound = none_sound c.clear.new.self c.clear-2.new.self c.clear-3.new.self c.clear.ensures.empty c.clear-2.ensures.empty
          (c.clear-3.ensures.count ∙ c.self.invariant.sound.count) c.clear-3.ensures.free room room';
      keyed = none_keyed c.self.inside.keys.items c.clear.new.self c.clear-2.new.self c.self.invariant.keyed.count c.clear.ensures.empty
          c.clear-2.ensures.empty;
      between = nothing_between (2 ^ 64 - 1) 0 c.clear.new.self c.clear-2.new.self c.clear.ensures.empty c.clear-2.ensures.empty;
    }

pub returns : goal.returns
returns c = none_is c.clear.new.self c.clear-2.new.self c.clear.ensures.empty c.clear-2.ensures.empty

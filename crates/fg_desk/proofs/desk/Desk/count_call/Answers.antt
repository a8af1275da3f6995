use Rattle.std.proofs.Common.{◌<◌, ◌^◌, sym, subst}
use Rattle.fg_desk.specs.Contents.{Contents}
use Rattle.fg_desk.specs.Parts.{parts_of}
use Rattle.fg_desk.proofs.DeskCounts.{counted_sound}
use Rattle.fg_desk.proofs.desk.Desk.count_call.Goals as goal

pub invariant_of-self : goal.invariant_of-self
invariant_of-self c = record {
  sound = counted_sound (parts_of c.self.inside) c.self.invariant.sound
      (subst (λ (s : Contents). s.state.calls < 2 ^ 62) (sym c.self.view_is) c.requires);
  timed = c.self.invariant.timed;
  watched = c.self.invariant.watched;
}

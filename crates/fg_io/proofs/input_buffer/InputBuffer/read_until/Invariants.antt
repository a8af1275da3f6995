use Rattle.std.proofs.Common.{◌≡◌, ◌-◌, length}
use Rattle.fg_io.specs.InputBuffer.{InputState, TakesMore}
use Rattle.fg_io.proofs.input_buffer.InputBuffer.read_until.Given as goal

abbrev pub invariant-loop-self : goal.invariant-loop-self
invariant-loop-self g l = record {
  takes : TakesMore l.fn.self.held (g.S.Source.left l.fn.from) l.self.held (g.S.Source.left l.from);
  same : (let now : InputState = l.self in let was : InputState = l.fn.self in now ≡ record was { held = now.held });
  faults : g.S.Source.faults l.from ≡ g.S.Source.faults l.fn.from;
  fixed : g.S.Source.fixed l.from ≡ g.S.Source.fixed l.fn.from;
}

abbrev pub decreases-loop-self : goal.decreases-loop-self
decreases-loop-self g l = l.goal - length l.self.held

use Rattle.std.proofs.Common.{subst}
use Rattle.fg_buffer.specs.PlayoutBuffer.{BufferState, IsBuffer}
use Rattle.fg_buffer.proofs.BufferViews.{is_buffer}
use Rattle.fg_buffer.proofs.playout_buffer.PlayoutBuffer.mark.Goals as goal

pub returns-clause-facts : goal.returns-clause-facts
returns-clause-facts c = subst (λ (r : BufferState). IsBuffer r) c.self.view_is (is_buffer c.self.inside.mark c.self.inside.entries c.self.invariant.0)

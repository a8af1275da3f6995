use Rattle.std.proofs.Common.{arith}
use Rattle.fg_buffer.proofs.BufferChanges.{opened_are, opened_media, opened_buffer_is}
use Rattle.fg_buffer.proofs.playout_buffer.PlayoutBuffer.new.Goals as goal

pub invariant_of-result : goal.invariant_of-result
invariant_of-result c = (
  opened_are _ c.args.depth (omega (arith, c.in_ok-new.ensures.count)) c.requires c.in_ok-new.ensures.empty,
  λ _. opened_media _ c.in_ok-new.ensures.empty,
)

pub returns : goal.returns
returns c = opened_buffer_is _ c.args.depth (omega (arith, c.in_ok-new.ensures.count)) c.in_ok-new.ensures.empty

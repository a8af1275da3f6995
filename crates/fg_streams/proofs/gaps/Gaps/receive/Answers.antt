use Rattle.std.proofs.Common.{refl, ◌∙◌}
use Rattle.fg_streams.proofs.Closing.{closed_received}
use Rattle.fg_streams.proofs.gaps.Gaps.receive.Goals as goal

pub returns : goal.returns
returns c = λ times h. closed_received c.end_burst.new.self _ times c.args.at (c.end_burst.ensures.slots ∙ h.slots) (c.in_ok-end_burst.ensures.ended times h) refl refl refl refl refl

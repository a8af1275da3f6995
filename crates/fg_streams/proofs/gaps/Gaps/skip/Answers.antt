use Rattle.std.proofs.Common.{refl}
use Rattle.fg_streams.proofs.Closing.{closed_lost}
use Rattle.fg_streams.proofs.gaps.Gaps.skip.Goals as goal

pub returns : goal.returns
returns c = λ times h. closed_lost c.args.self.now _ times c.args.count h refl refl refl refl refl

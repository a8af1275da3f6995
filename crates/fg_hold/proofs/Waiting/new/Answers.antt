use Rattle.std.proofs.Common.{refl}
use Rattle.fg_hold.proofs.Opened.{none_waits}
use Rattle.fg_hold.proofs.Waiting.new.Goals as goal

pub returns-clause-waits : goal.returns-clause-waits
returns-clause-waits c = none_waits _ refl refl refl refl

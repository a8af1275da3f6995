use Rattle.std.proofs.Common.{is_some}
use Rattle.fg_peel.specs.Peeling.{end_of}
use Rattle.fg_peel.proofs.Closures.{closure_closed, closure_least}
use Rattle.fg_peel.proofs.Peelings.{maximal_end}
use Rattle.fg_peel.proofs.Maximal.{maximal_exists}
use Rattle.fg_peel.proofs.laws.closure_is_least.Goals as goal

pub returns-clause-closed : goal.returns-clause-closed
returns-clause-closed c = closure_closed

pub returns-clause-least : goal.returns-clause-least
returns-clause-least c known equations test closed = closure_least known equations _ closed

-- A maximal peeling's end tests for the closure.
pub returns-clause-tested : goal.returns-clause-tested
returns-clause-tested c known equations =
    let m = maximal_exists known equations in
    (λ q. is_some (end_of known m.0 q), maximal_end known equations m.0 m.1)

use Rattle.std.proofs.Common.{arith}
use Rattle.fg_desk.proofs.DeskSkips.{no_equations_in}
use Rattle.fg_desk.proofs.skipping.empty_windows.Goals as goal

pub returns-clause-equations : goal.returns-clause-equations
returns-clause-equations c some = no_equations_in c.args.lines.now (omega (arith, c.count.ensures.count))

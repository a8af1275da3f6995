-- Where nothing is written, it is a part of the choice's line.
use Rattle.std.proofs.Common.{ℕ, Bool}
use Rattle.fg_io.specs.Laws.{NoneIsPart}
use Rattle.fg_plan.specs.Text.{choice_line}
use Rattle.fg_commands.specs.Planning.{planning}
use Rattle.fg_commands.specs.Printer.{printer}
use Rattle.fg_commands.proofs.Filters.{printer_lawful}
use Rattle.fg_commands.proofs.Lawful.{Lawful}

pub lawful : NoneIsPart → (burst most : ℕ) (rows : Bool) → Lawful (printer (planning burst most rows))
lawful none burst most rows = printer_lawful (planning burst most rows) (λ written choice is. none written (choice_line choice))

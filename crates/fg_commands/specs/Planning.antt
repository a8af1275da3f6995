-- What `plan` is for: this project's own.
use Rattle.std.specs.Prelude.{ℕ, Bool, Option}
use Rattle.fg_io.specs.Sink.{Gains, GainsPart}
use Rattle.fg_plan.specs.Choice.{IsChoice}
use Rattle.fg_plan.specs.Text.{choice_line}
use Rattle.fg_commands.specs.Printer.{Printer}

-- The line of the choice of a matrix is written; after a fault a prefix of it.
abbrev pub planning : ℕ → ℕ → Bool → Printer
planning burst most rows = record {
  gains = λ written written'. (choice : Option (ℕ × ℕ)) × IsChoice burst most rows choice × Gains written (choice_line choice) written';
  part = λ written written'. (choice : Option (ℕ × ℕ)) → IsChoice burst most rows choice → GainsPart written (choice_line choice) written';
}

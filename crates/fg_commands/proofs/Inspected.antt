-- Where nothing was inspected, what is written is a part, as it was.
use Rattle.std.proofs.Common.{ℕ, List, Option, None, Some}
use Rattle.fg_io.specs.Laws.{NoneIsPart}
use Rattle.fg_inspect.specs.Inspect.{TellsPart}
use Rattle.fg_commands.specs.Filter.{filter}
use Rattle.fg_commands.specs.Inspection.{inspection}
use Rattle.fg_commands.proofs.Lawful.{Lawful}
use Rattle.fg_commands.proofs.Traces.{trace_lawful}

none_told : NoneIsPart → (flows : List ℕ) (max : ℕ) (input written : Option (List ℕ)) → TellsPart flows max input written written
none_told none flows max None written = tt
none_told none flows max (Some bytes) written = λ records end text trace is. none written text

pub lawful : NoneIsPart → (flows : List ℕ) (max : ℕ) → Lawful (filter (inspection flows max))
lawful none flows max = trace_lawful max _ (TellsPart flows max) (none_told none flows max)

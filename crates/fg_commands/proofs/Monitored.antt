-- Where nothing was monitored, what is written is a part, as it was.
use Rattle.std.proofs.Common.{ℕ, List, Option, None, Some}
use Rattle.fg_io.specs.Laws.{NoneIsPart}
use Rattle.fg_monitor.specs.Monitored.{MonitorsPart}
use Rattle.fg_commands.specs.Filter.{filter}
use Rattle.fg_commands.specs.Monitoring.{monitoring}
use Rattle.fg_commands.proofs.Lawful.{Lawful}
use Rattle.fg_commands.proofs.Streams.{stream_lawful}

none_told : NoneIsPart → (max : ℕ) (input written : Option (List ℕ)) → MonitorsPart max input written written
none_told none max None written = tt
none_told none max (Some bytes) written = λ packets end text cut is. none written text

pub lawful : NoneIsPart → (max : ℕ) → Lawful (filter (monitoring max))
lawful none max = stream_lawful 1 max _ (MonitorsPart max) (none_told none max)

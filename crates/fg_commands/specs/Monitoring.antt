-- What `monitor` is for: this project's own.
use Rattle.std.specs.Prelude.{ℕ}
use Rattle.fg_monitor.specs.Monitored.{Monitors, MonitorsPart}
use Rattle.fg_commands.specs.Filter.{Filter, of_stream}

-- The faults of the stream are told, and the answer is that of its ending. Each packet is a payload of its own.
abbrev pub monitoring : ℕ → Filter
monitoring max = of_stream 1 max (Monitors max) (MonitorsPart max)

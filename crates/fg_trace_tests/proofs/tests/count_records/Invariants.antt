use Rattle.std.proofs.Common.{◌≡◌, ◌-◌, ◌≤◌, List, length}
use Rattle.fg_trace.specs.Trace.{Record}
use Rattle.fg_trace.specs.Reader.{StandsAfter}
use Rattle.fg_trace_tests.proofs.tests.count_records.Given as goal

abbrev pub invariant-loop-count : goal.invariant-loop-count
invariant-loop-count g l = (l.reader.max ≡ l.max) × (l.count ≤ l.reader.place) × (records : List Record) × (l.count ≡ length records) × StandsAfter l.reader (g.S.Source.left l.fn.from) (g.S.Source.left l.from) records

abbrev pub decreases-loop-count : goal.decreases-loop-count
decreases-loop-count g l = l.reader.max - l.reader.place

-- What shows that the definition of an inspection's text is right.
use Rattle.std.specs.Prelude.{◌≡◌, ℕ, List, ◌++◌}
use Rattle.fg_io.specs.Prefix.{IsPrefix}
use Rattle.fg_flows.specs.Flows.{IsTable}
use Rattle.fg_trace.specs.Trace.{Record}
use Rattle.fg_inspect.specs.declared.reading.Reading.{Reading}
use Rattle.fg_inspect.specs.Reading.{IsReading}
use Rattle.fg_inspect.specs.Text.{IsText}

-- A datagram on a port is read in one way.
abbrev pub OneReading : Type 0
OneReading =
    (flows : List ℕ) (port : ℕ) (bytes : List ℕ) (one other : Reading)
    → IsTable flows → IsReading flows port bytes one → IsReading flows port bytes other → one ≡ other

-- Records have one text.
abbrev pub OneText : Type 0
OneText =
    (flows : List ℕ) (records : List Record) (one other : List ℕ)
    → IsTable flows → IsText flows records one → IsText flows records other → one ≡ other

-- The text of the first records is the front of the text of all.
abbrev pub TextOfFront : Type 0
TextOfFront =
    (flows : List ℕ) (records later : List Record) (front text : List ℕ)
    → IsTable flows → IsText flows records front → IsText flows (records ++ later) text → IsPrefix front text

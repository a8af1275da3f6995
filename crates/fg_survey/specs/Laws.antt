-- What shows that the definition of a survey's text is right.
use Rattle.std.specs.Prelude.{◌≡◌, ℕ, Bool, List}
use Rattle.fg_trace.specs.Trace.{Record, Ending}
use Rattle.fg_survey.specs.declared.reading.Reading.{Reading}
use Rattle.fg_survey.specs.Reading.{IsReading}
use Rattle.fg_survey.specs.Survey.{IsText}

-- A datagram is read in one way.
abbrev pub OneReading : Type 0
OneReading = (bytes : List ℕ) (one other : Reading) → IsReading bytes one → IsReading bytes other → one ≡ other

-- A trace has one text.
abbrev pub OneText : Type 0
OneText =
    (json : Bool) (records : List Record) (end : Ending) (one other : List ℕ)
    → IsText json records end one → IsText json records end other → one ≡ other

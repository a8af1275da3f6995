-- What `survey` is for: this project's own.
use Rattle.std.specs.Prelude.{◌⊎◌, ℕ, Bool, IfSome}
use Rattle.fg_survey.specs.Survey.{Surveys, SurveysPart}
use Rattle.fg_surveyed.specs.Told.{SurveyTellsLosses}
use Rattle.fg_commands.specs.Ended.{IsFault}
use Rattle.fg_commands.specs.Filter.{Filter, also_back, at_the_end, of_trace}

-- What the input's trace holds is told once it was read, and the answer is that of its ending. Where the trace is exactly what is
-- left of an encoding, its losses and its layout are told.
abbrev pub surveying : Bool → ℕ → Filter
surveying json max = at_the_end (also_back
    (λ answer input written written'. IfSome input (λ bytes. IsFault answer ⊎ SurveyTellsLosses json max bytes written written'))
    (of_trace max (Surveys json max) (SurveysPart json max)))

-- Where nothing was surveyed, what is written is a part, as it was, and nothing need be told.
use Rattle.std.proofs.Common.{◌⊎◌, inl, inr, ℕ, Bool, List, Option, None, Some, IfSome}
use Rattle.fg_io.specs.Laws.{NoneIsPart}
use Rattle.fg_trace.specs.declared.step.Finish.{Finish}
use Rattle.fg_trace.specs.Finish.{IsFault as IsFinishFault}
use Rattle.fg_survey.specs.Survey.{Surveys, SurveysPart}
use Rattle.fg_surveyed.specs.Laws.{SurveysTellLosses}
use Rattle.fg_surveyed.specs.Told.{SurveyTellsLosses}
use Rattle.fg_commands.specs.declared.ended.Why.TheVariants as why
use Rattle.fg_commands.specs.Ended.{IsFault}
use Rattle.fg_commands.specs.Endings.{why_of_finish}
use Rattle.fg_commands.specs.Filter.{filter}
use Rattle.fg_commands.specs.Surveying.{surveying}
use Rattle.fg_commands.proofs.Filters.{filter_lawful}
use Rattle.fg_commands.proofs.Lawful.{Lawful}
use Rattle.fg_commands.proofs.Told.{finish_tells}
use Rattle.fg_commands.proofs.Traces.{no_end, unread}

pub comes_back : SurveysTellLosses → (json : Bool) (max : ℕ) (answer : Finish) (first before after : Option (List ℕ))
    → IsFinishFault answer ⊎ Surveys json max answer first before after
    → IfSome first (λ bytes. IsFault (why_of_finish answer) ⊎ SurveyTellsLosses json max bytes before after)
comes_back law json max answer None before after h = tt
comes_back law json max answer (Some bytes) before after (inl fault) = inl (finish_tells.is_fault answer fault)
comes_back law json max answer (Some bytes) before after (inr told) = inr (law json max answer bytes before after told)

none_surveyed : NoneIsPart → (json : Bool) (max : ℕ) (input written : Option (List ℕ)) → SurveysPart json max input written written
none_surveyed none json max None written = tt
none_surveyed none json max (Some bytes) written = λ records end text trace is. none written text

none_told : (json : Bool) (max : ℕ) (input written : Option (List ℕ)) → IfSome input (λ bytes. IsFault why.Memory ⊎ SurveyTellsLosses json max bytes written written)
none_told json max None written = tt
none_told json max (Some bytes) written = inl tt

pub lawful : NoneIsPart → (json : Bool) (max : ℕ) → Lawful (filter (surveying json max))
lawful none json max = filter_lawful (surveying json max) (none_surveyed none json max) (none_told json max) (unread max) no_end

-- What a survey of an encoding is worth, of which records were left out.
use Rattle.std.specs.Prelude.{◌≡◌, ◌-◌, ◌*◌, ◌<◌, ◌≤◌, ℕ, Bool, false, List, length, Option, Some}
use Rattle.fg_shape.specs.declared.layouts.Layout.{Layout}
use Rattle.fg_shape.specs.declared.encoding.Settings.{Settings}
use Rattle.fg_shape.specs.Settings.{CanEncode}
use Rattle.fg_trace.specs.declared.step.Finish.{Finish}
use Rattle.fg_trace.specs.Trace.{Ended}
use Rattle.fg_survey.specs.Survey.{IsText, Surveys}
use Rattle.fg_encode.specs.Payloads.{ArePayloads}
use Rattle.fg_thin.specs.Thinned.{AreFew, thinned}
use Rattle.fg_surveyed.specs.Left.{LeavesColumn, LeavesMedia}
use Rattle.fg_surveyed.specs.Told.{SurveyTellsLosses, TellsLosses}

-- The text of the records that are left of an encoding tells its losses and its layout.
abbrev pub TextsTellLosses : Type 0
TextsTellLosses =
    (json : Bool) (settings : Settings) (payloads : List (List ℕ)) (lost : ℕ → Bool) (first last : ℕ) (text : List ℕ)
    → CanEncode settings → ArePayloads settings.packets payloads
    → LeavesMedia settings.layout (length payloads) lost first last
    → IsText json (thinned settings lost payloads) Ended text → TellsLosses json settings payloads lost first last text

-- So does a survey of their trace.
abbrev pub SurveysTellLosses : Type 0
SurveysTellLosses =
    (json : Bool) (max : ℕ) (answer : Finish) (bytes : List ℕ) (written written' : Option (List ℕ))
    → Surveys json max answer (Some bytes) written written' → SurveyTellsLosses json max bytes written written'

-- Few losses, as those of a drill, leave media records: the first, and some last one.
abbrev pub FewLossesLeaveMedia : Type 0
FewLossesLeaveMedia =
    (layout : Layout) (count : ℕ) (lost : ℕ → Bool) → AreFew layout count lost → 1 ≤ count
    → (last : ℕ) × LeavesMedia layout count lost 0 last

-- Where nothing is lost, all are left, and the parity of columns is as soon as one has ended.
abbrev pub NothingLostLeavesMedia : Type 0
NothingLostLeavesMedia =
    (layout : Layout) (count : ℕ) (lost : ℕ → Bool) → ((number : ℕ) → lost number ≡ false) → 1 ≤ count
    → LeavesMedia layout count lost 0 (count - 1)

abbrev pub NothingLostLeavesColumns : Type 0
NothingLostLeavesColumns =
    (layout : Layout) (count : ℕ) (lost : ℕ → Bool) → ((number : ℕ) → lost number ≡ false)
    → (layout.d - 1) * layout.l < count → LeavesColumn layout count lost 0

-- Laws of choices.
use Rattle.std.specs.Prelude.{◌≡◌, ◌≤◌, ℕ, Bool, false, List, length, Option, Some}
use Rattle.fg_shape.specs.declared.encoding.Settings.{Settings}
use Rattle.fg_shape.specs.Playout.{Playout}
use Rattle.fg_results.specs.Flow.{FlowResult, IsFlowResult}
use Rattle.fg_thin.specs.Thinned.{thinned}
use Rattle.fg_drill.specs.ComesBack.{CanComeBack, stream_of}
use Rattle.fg_drill.specs.Covered.{IsBurst, WaitsForColumns}
use Rattle.fg_drill.specs.Repaired.{Peels}
use Rattle.fg_plan.specs.Choice.{IsChoice}

-- Two choices for the same burst, share and rows are the same.
abbrev pub OneChoice : Type 0
OneChoice =
    (burst most : ℕ) (rows : Bool) (one other : Option (ℕ × ℕ)) → IsChoice burst most rows one
    → IsChoice burst most rows other → one ≡ other

-- A stream was encoded in the matrix that is chosen, block-aligned; of that a burst was lost that is no longer than was planned for;
-- and the repair's playout waits for columns.
pub record IsAsPlanned
    (burst most : ℕ) (rows : Bool) (playout : Playout) (settings : Settings) (payloads : List (List ℕ)) (lost : ℕ → Bool)
    (first size : ℕ) : Type 0 where
  pub chosen : IsChoice burst most rows (Some (settings.layout.l, settings.layout.d))
  pub flat : settings.layout.staggered ≡ false
  pub within : size ≤ burst
  pub is_burst : IsBurst settings.layout (length payloads) lost first size
  pub waits : WaitsForColumns playout settings.layout
  pub can : CanComeBack playout settings payloads lost

-- Then what is left peels,
abbrev pub PlannedBurstsPeel : Type 0
PlannedBurstsPeel =
    (burst most : ℕ) (rows : Bool) (playout : Playout) (settings : Settings) (payloads : List (List ℕ)) (lost : ℕ → Bool)
    (first size : ℕ)
    → IsAsPlanned burst most rows playout settings payloads lost first size
    → Peels playout settings.port (thinned settings lost payloads) (length payloads)

-- and the whole stream comes back.
abbrev pub PlannedBurstsComeBack : Type 0
PlannedBurstsComeBack =
    (burst most : ℕ) (rows : Bool) (playout : Playout) (settings : Settings) (payloads : List (List ℕ)) (lost : ℕ → Bool)
    (first size : ℕ) (result : FlowResult)
    → IsAsPlanned burst most rows playout settings payloads lost first size
    → IsFlowResult playout (thinned settings lost payloads) settings.port result → result.lane ≡ stream_of payloads

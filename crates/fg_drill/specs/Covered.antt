-- Which losses the parity of columns brings back. That a column's parity brings back one of its datagrams is SMPTE ST 2022-1's;
-- the law is this project's own.
use Rattle.std.specs.Prelude.{◌≡◌, ◌+◌, ◌-◌, ◌*◌, ◌^◌, ◌<◌, ◌≤◌, ◌↔◌, ℕ, Bool, true, false, List, length, map, Option, None}
use Rattle.std.specs.List.{Contains, range_with_len}
use Rattle.fg_io.specs.Outlet.{Lanes}
use Rattle.fg_shape.specs.declared.layouts.Layout.{Layout}
use Rattle.fg_shape.specs.declared.encoding.Losses.{Losses}
use Rattle.fg_shape.specs.declared.encoding.Settings.{Settings}
use Rattle.fg_shape.specs.Layout.{ColumnEnds}
use Rattle.fg_shape.specs.Losses.{MayLose}
use Rattle.fg_shape.specs.Playout.{Playout}
use Rattle.fg_shape.specs.Settings.{CanEncode}
use Rattle.fg_shape.specs.Shape.{slots_of}
use Rattle.fg_flows.specs.declared.Plan.{Plan}
use Rattle.fg_flows.specs.Plan.{PlanFits, playout_of}
use Rattle.fg_results.specs.Flow.{FlowResult, IsFlowResult}
use Rattle.fg_thin.specs.Thinned.{AreFew, is_lost, media_number, thinned}
use Rattle.fg_drill.specs.ComesBack.{CanComeBack, stream_of}
use Rattle.fg_drill.specs.Drill.{Answer, StreamComesBack}
use Rattle.fg_drill.specs.Repaired.{Peels}

-- A column that ends at the slot `last` has this first slot, and this one among its slots.
abbrev pub HasInColumn : Layout → ℕ → ℕ → ℕ → Type 0
HasInColumn layout last base slot = ColumnEnds layout last base × Contains (slots_of base layout.l layout.d) slot

-- The media record of a slot is lost.
abbrev pub is_gone : Layout → (ℕ → Bool) → ℕ → Bool
is_gone layout lost slot = lost (media_number layout slot)

-- Media records alone are lost. Each slot of so many that loses its own is in a column that ends among them, and no column loses
-- two.
pub record AreCovered (layout : Layout) (count : ℕ) (lost : ℕ → Bool) : Type 0 where
  pub media : (number : ℕ) → lost number ≡ true → (slot : ℕ) × (number ≡ media_number layout slot)
  pub ended :
      (slot : ℕ) → slot < count → is_gone layout lost slot ≡ true
      → (last : ℕ) × (base : ℕ) × HasInColumn layout last base slot × (last < count)
  pub one :
      (last base slot other : ℕ) → HasInColumn layout last base slot → HasInColumn layout last base other
      → is_gone layout lost slot ≡ true → is_gone layout lost other ≡ true → slot ≡ other

-- A word waits for its column: no word is played for waiting too long, and a play is due only once each column that begins before
-- the end of its window has ended.
pub record WaitsForColumns (playout : Playout) (layout : Layout) : Type 0 where
  pub hold : playout.hold ≡ 0
  pub depth : playout.window + (layout.d - 1) * layout.l ≤ playout.depth

-- Then what is sent peels, in block-aligned and in staggered layouts, whether rows have parity or not.
abbrev pub CoveredLossesPeel : Type 0
CoveredLossesPeel =
    (playout : Playout) (settings : Settings) (payloads : List (List ℕ)) (lost : ℕ → Bool)
    → CanComeBack playout settings payloads lost → AreCovered settings.layout (length payloads) lost
    → WaitsForColumns playout settings.layout
    → Peels playout settings.port (thinned settings lost payloads) (length payloads)

-- And so the whole stream comes back.
abbrev pub CoveredLossesComeBack : Type 0
CoveredLossesComeBack =
    (playout : Playout) (settings : Settings) (payloads : List (List ℕ)) (lost : ℕ → Bool) (result : FlowResult)
    → CanComeBack playout settings payloads lost → AreCovered settings.layout (length payloads) lost
    → WaitsForColumns playout settings.layout
    → IsFlowResult playout (thinned settings lost payloads) settings.port result → result.lane ≡ stream_of payloads

-- So a drill brings back all that was cut of a stream, and the whole stream where that ends with its last payload.
abbrev pub CoveredDrillsComeBack : Type 0
CoveredDrillsComeBack =
    (settings : Settings) (plan : Plan) (losses : Losses) (max : ℕ) (answer : Answer) (bytes : List ℕ) (lanes lanes' : Option Lanes)
    → CanEncode settings → PlanFits plan → MayLose losses → max ≤ 2 ^ 40
    → (back : StreamComesBack settings plan losses max answer bytes lanes lanes')
    → AreCovered settings.layout (length back.payloads) (is_lost losses) → WaitsForColumns (playout_of plan) settings.layout
    → (back.result.lane ≡ stream_of back.payloads) × (back.end ≡ None → back.result.lane ≡ bytes)

-- Where the first record isn't lost either, the losses are few, so that what is sent may be repaired.
abbrev pub CoveredLossesAreFew : Type 0
CoveredLossesAreFew =
    (layout : Layout) (count : ℕ) (lost : ℕ → Bool) → lost 0 ≡ false → AreCovered layout count lost → AreFew layout count lost

-- The media records of so many slots in succession are lost, and no other record. The first slot of all isn't among them, and they
-- end within so many matrices, all of which are sent.
pub record IsBurst (layout : Layout) (count : ℕ) (lost : ℕ → Bool) (first size : ℕ) : Type 0 where
  pub lost_are :
      (number : ℕ)
      → (lost number ≡ true)
      ↔ ((slot : ℕ) × (first ≤ slot) × (slot < first + size) × (number ≡ media_number layout slot))
  pub some : 1 ≤ first
  pub whole : (matrices : ℕ) × (first + size ≤ matrices * (layout.l * layout.d)) × (matrices * (layout.l * layout.d) ≤ count)

-- In a block-aligned layout the losses of a burst that is no longer than a row are covered, and few. It may begin in one matrix and
-- end in the next.
abbrev pub BurstsAreCovered : Type 0
BurstsAreCovered =
    (layout : Layout) (count : ℕ) (lost : ℕ → Bool) (first size : ℕ) → layout.staggered ≡ false → size ≤ layout.l
    → IsBurst layout count lost first size → AreCovered layout count lost × AreFew layout count lost

-- A burst can be asked for: the numbers of its media records are left out.
abbrev pub DropsAreBursts : Type 0
DropsAreBursts =
    (layout : Layout) (count : ℕ) (losses : Losses) (first size matrices : ℕ)
    → losses.drops ≡ map (media_number layout) (range_with_len first size) → losses.every ≡ 0 → 1 ≤ first
    → first + size ≤ matrices * (layout.l * layout.d) → matrices * (layout.l * layout.d) ≤ count
    → IsBurst layout count (is_lost losses) first size

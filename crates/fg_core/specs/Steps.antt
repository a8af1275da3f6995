-- What a step of a board is, as a turn guards it, and what it carries on. This project's own.
use Rattle.std.specs.Prelude.{◌≡◌, ◌⊎◌, List, [], ◌∷◌, ◌++◌, Option, Some, None}
use Rattle.fg_core.specs.Board.{BoardState}
use Rattle.fg_core.specs.Core.{Event, IsCall, IsEvent}
use Rattle.fg_core.specs.Codes.{Entry, call_from, IsOwnedBy, GrowsFrom}

-- The owner's entries with one more, or with none.
abbrev pub extended : List Entry → Option Entry → List Entry
extended entries None = entries
extended entries (Some entry) = entries ++ entry ∷ []

-- A step makes of the old board one that is what the entries, with the step's own, make of it, and keeps what was told.
-- That it does is what the laws of the core say of each call and each event.
pub record CarriesOn (entry : Option Entry) (old new : BoardState) : Type 0 where
  pub owned : (entries : List Entry) → IsOwnedBy entries old → IsOwnedBy (extended entries entry) new
  pub grows : (entries told : List Entry) → IsOwnedBy entries old → GrowsFrom told old → GrowsFrom told new

-- What a step is: a call of the admitter, of its entry; or an event of a pass, or a turn that found no memory.
abbrev pub IsStep : Option Entry → BoardState → BoardState → Type 0
IsStep (Some entry) old new = IsCall old (call_from entry) new × CarriesOn (Some entry) old new
IsStep None old new = (((event : Event) × IsEvent old event new) ⊎ (new ≡ old)) × CarriesOn None old new

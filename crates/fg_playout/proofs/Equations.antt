-- The live equations are those that stand under a serial number.
use Rattle.std.proofs.Common.{◌≡◌, ℕ, Some, subst}
use Rattle.std.specs.List.{Contains}
use Rattle.std.specs.FinMap.{get, entries}
use Rattle.fg_peel.specs.Equation.{Equation}
use Rattle.fg_peel.proofs.Maps.{get_of_entry, entry_of_get}
use Rattle.fg_peel.proofs.Lists.{Contains-map, Contains-from_map}
use Rattle.fg_playout.specs.State.{State, Live, live_equations}
use Rattle.fg_playout.specs.Laws.{LiveStandUnderSerials}

-- A live equation stands under a serial number.
pub serial_of : (desk : State) (equation : Equation) → Contains (live_equations desk) equation
    → (serial : ℕ) × (live : Live) × (get desk.equations serial ≡ Some live) × (live.equation ≡ equation)
serial_of desk equation c =
    let r = Contains-from_map (λ (e : ℕ × Live). e.1.equation) (entries desk.equations) equation c in
    (r.0.0, r.0.1, get_of_entry desk.equations r.0 r.1, r.2)

-- What stands under a serial number is live.
pub live_at : (desk : State) (serial : ℕ) (live : Live) → get desk.equations serial ≡ Some live → Contains (live_equations desk) live.equation
live_at desk serial live is =
    Contains-map (λ (e : ℕ × Live). e.1.equation) (entries desk.equations) (serial, live) (entry_of_get desk.equations serial live is)

pub live_stand_under_serials : LiveStandUnderSerials
live_stand_under_serials desk equation = (
  serial_of desk equation,
  λ h. subst (λ (e : Equation). Contains (live_equations desk) e) h.3 (live_at desk h.0 h.1 h.2),
)

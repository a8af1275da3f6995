-- Live equations among those of a list, and as lines.
use Rattle.std.proofs.Common.{◌≡◌, ℕ, Some}
use Rattle.std.specs.List.{Contains}
use Rattle.std.specs.FinMap.{get}
use Rattle.fg_peel.specs.declared.Line.{Line}
use Rattle.fg_peel.specs.Equation.{Equation}
use Rattle.fg_playout.specs.State.{State, Live, opening}
use Rattle.fg_buffer.specs.LiveEquations.{LiveState}
use Rattle.fg_desk.specs.Storage.{equations_in}
use Rattle.fg_playout.proofs.Equations.{serial_of, live_at}

-- A desk of which these are the live equations.
abbrev pub desk_of : LiveState → State
desk_of lines = record (opening (record { window = 0; depth = 0; hold = 0 })) { equations = lines.live }

pub serial_in : (lines : LiveState) (equation : Equation) → Contains (equations_in lines) equation
    → (serial : ℕ) × (live : Live) × (get lines.live serial ≡ Some live) × (live.equation ≡ equation)
serial_in lines equation c = serial_of (desk_of lines) equation c

pub live_in_at : (lines : LiveState) (serial : ℕ) (live : Live) → get lines.live serial ≡ Some live → Contains (equations_in lines) live.equation
live_in_at lines serial live is = live_at (desk_of lines) serial live is

abbrev pub line_with : ℕ → Live → Line
line_with serial live = record {
  base = live.equation.base;
  shape = record { offset = live.equation.offset; na = live.equation.count };
  parity = live.equation.parity;
  serial = serial;
  place = live.place;
}

-- Live equations: what parity datagrams say of a window's words, which is SMPTE ST 2022-1's. Their places and how long they
-- live are this project's own.
use Rattle.std.specs.Prelude.{◌≡◌, ◌≢◌, ◌+◌, ◌-◌, ◌*◌, ◌<◌, ◌≤◌, ℕ, Some, IsSome}
use Rattle.std.specs.List.{Contains}
use Rattle.std.specs.Ordering.{nat_cmp}
use Rattle.std.specs.FinMap.{FinMap, get}
use Rattle.fg_peel.specs.Equation.{Equation, slots}
use Rattle.fg_peel.specs.Verdict.{IsLeast}
use Rattle.fg_peel.specs.Words.{Words}

-- How many equations may be live.
abbrev pub live_limit : ℕ
live_limit = 512

-- A live equation: its place among the live ones, and what its parity datagram says.
pub record Live : Type 0 where
  pub place : ℕ
  pub equation : Equation

-- The greatest slot of an equation.
abbrev pub last_slot : Equation → ℕ
last_slot equation = equation.base + (equation.count - 1) * equation.offset

-- An equation of this base and shape.
pub record HasSlots (base offset count : ℕ) (equation : Equation) : Type 0 where
  pub base_is : equation.base ≡ base
  pub offset_is : equation.offset ≡ offset
  pub count_is : equation.count ≡ count

-- None of these equations has the place.
abbrev pub IsFree : FinMap nat_cmp Live → ℕ → Type 0
IsFree equations place = (serial : ℕ) (live : Live) → get equations serial ≡ Some live → live.place ≢ place

-- It is the least such place.
abbrev pub IsLeastFree : FinMap nat_cmp Live → ℕ → Type 0
IsLeastFree equations = IsLeast (IsFree equations)

-- An equation is live after a play: its last slot is the new mark or past it, and the words at its slots below the new
-- mark are kept.
pub record Survives (mark : ℕ) (kept : Words) (equation : Equation) : Type 0 where
  pub reaches : mark ≤ last_slot equation
  pub based : (slot : ℕ) → Contains (slots equation) slot → slot < mark → IsSome (get kept slot)

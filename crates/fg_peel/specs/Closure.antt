-- The closure: which positions' words follow from the known words and the equations. After SMPTE ST 2022-1, where one
-- parity datagram recovers one lost datagram. It is the least closed set, without order.
use Rattle.std.specs.Prelude.{◌≢◌, ℕ, List, Option, IsSome}
use Rattle.std.specs.List.{Contains}
use Rattle.fg_words.specs.declared.Word.{Word}
use Rattle.fg_peel.specs.Equation.{Equation, slots}

-- A set of positions is closed if each known position is in it, and, where all slots of an equation but one are in it,
-- so is that one.
pub record IsClosed (known : ℕ → Option Word) (equations : List Equation) (inside : ℕ → Type 0) : Type 0 where
  pub given : (position : ℕ) → IsSome (known position) → inside position
  pub derived :
      (equation : Equation) (position : ℕ) → Contains equations equation → Contains (slots equation) position
      → ((other : ℕ) → Contains (slots equation) other → other ≢ position → inside other)
      → inside position

-- The least of these sets: a position is in it by one of the two rules, and by nothing else.
pub data InClosure (known : ℕ → Option Word) (equations : List Equation) : ℕ → Type 0 where
  given : {position : ℕ} → IsSome (known position) → InClosure known equations position
  derived :
      (equation : Equation) {position : ℕ} → Contains equations equation → Contains (slots equation) position
      → ((other : ℕ) → Contains (slots equation) other → other ≢ position → InClosure known equations other)
      → InClosure known equations position

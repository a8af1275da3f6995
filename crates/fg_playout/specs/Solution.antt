-- What follows from a desk's words and equations, and which words solve it. After SMPTE ST 2022-1, where one parity
-- datagram recovers one lost datagram.
use Rattle.std.specs.Prelude.{◌≡◌, ◌≢◌, ◌≤◌, ◌↔◌, ℕ, Option, Some, None, IsSome}
use Rattle.std.specs.List.{Contains}
use Rattle.fg_words.specs.declared.Word.{Word}
use Rattle.fg_words.specs.Word.{IsMedia}
use Rattle.fg_peel.specs.Equation.{Equation, slots, sum_at}
use Rattle.fg_playout.specs.State.{State, known, live_equations}

-- The closure: the least set that has each position with a kept or a received word and, wherever a live equation has
-- all its slots in it but one that isn't played yet, also that one.
pub data InClosure (desk : State) : ℕ → Type 0 where
  given : {position : ℕ} → IsSome (known desk position) → InClosure desk position
  derived :
      (equation : Equation) {position : ℕ} → Contains (live_equations desk) equation
      → Contains (slots equation) position → desk.mark ≤ position
      → ((other : ℕ) → Contains (slots equation) other → other ≢ position → InClosure desk other)
      → InClosure desk position

-- A solution: words for exactly the closure, with which all equations come out.
pub record IsSolution (desk : State) (words : ℕ → Option Word) : Type 0 where
  -- It has a word at exactly the positions of the closure.
  pub domain : (position : ℕ) → IsSome (words position) ↔ InClosure desk position
  -- It has the kept and the received words.
  pub agrees : (position : ℕ) (word : Word) → known desk position ≡ Some word → words position ≡ Some word
  -- Each other word is a media word.
  pub media :
      (position : ℕ) (word : Word) → known desk position ≡ None → words position ≡ Some word → IsMedia word
  -- Each live equation whose slots are all in the closure has the sum of their words as its parity word.
  pub sums :
      (equation : Equation) → Contains (live_equations desk) equation
      → ((position : ℕ) → Contains (slots equation) position → InClosure desk position)
      → equation.parity ≡ sum_at words (slots equation)

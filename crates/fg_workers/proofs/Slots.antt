-- What a tally shows of the equation that it holds.
use Rattle.std.proofs.Common.{◌≡◌, ℕ, ◌+◌, ◌*◌, ◌<◌, ◌≤◌, Option, Some, None, IfSome, Contains, sym, ap, subst, ◌∙◌}
use Rattle.fg_shape.specs.Shape.{IsShape, position_limit}
use Rattle.fg_shape.proofs.ShapeLemmas.{slot_of_number}
use Rattle.fg_peel.specs.Equation.{slots}
use Rattle.fg_turn.specs.Standing.{Standing}
use Rattle.fg_core.specs.Board.{BoardState}
use Rattle.fg_core.specs.declared.key.Key.{Key}
use Rattle.fg_tally.specs.Folding.{FoldingState}
use Rattle.fg_tally.specs.Tally.{IsPartOfSum, ShowsHeld}
use Rattle.fg_tally.specs.declared.answers.Held.{Held}

-- Its shape is one that is read, and its base has room.
pub shape_is_read :
    (state : Option FoldingState) (held : Held) (pass : Standing BoardState) → ShowsHeld state (Some held)
    → IfSome state (IsPartOfSum pass) → IsShape held.shape.offset held.shape.na × (held.base ≤ position_limit)
shape_is_read None held pass shows sum = absurd shows
shape_is_read (Some s) held pass shows sum = (
  subst (λ o. IsShape o held.shape.na) (sym shows.offset)
      (subst (λ n. IsShape s.equation.offset n) (sym shows.count) sum.shape),
  subst (λ b. b ≤ position_limit) (sym shows.base) sum.near,
)

-- The slot of each of its numbers is one of the equation.
pub slot_is_held :
    (state : Option FoldingState) (held : Held) (key : Key) (number slot : ℕ) → ShowsHeld state (Some held)
    → number < held.shape.na → slot ≡ held.base + number * held.shape.offset
    → IfSome state (λ s. s.key ≡ key → Contains (slots s.equation) slot)
slot_is_held None held key number slot shows below is = absurd shows
slot_is_held (Some s) held key number slot shows below is = λ _.
    subst (Contains (slots s.equation))
    (sym (is ∙ ap (λ b. b + number * held.shape.offset) shows.base ∙ ap (λ o. s.equation.base + number * o) shows.offset))
    (slot_of_number s.equation.base s.equation.offset s.equation.count number (subst (λ n. number < n) shows.count below))

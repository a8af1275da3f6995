-- The lines of the two groups are the live ones.
use Rattle.std.proofs.Common.{◌≡◌, ◌⊎◌, ◌≤◌, ◌↔◌, ◌^◌, Bool, true, false, inl, inr, refl, ⊎_elim}
use Rattle.std.specs.FinSet as set
use Rattle.slab.specs.Slab.{Slab}
use Rattle.fg_shape.specs.Shape.{IsShape}
use Rattle.fg_peel.specs.declared.Line.{Line}
use Rattle.fg_playout.specs.Facts.{Holds}
use Rattle.fg_desk.specs.Inside.{Parts, state_of}
use Rattle.fg_buffer.specs.LiveEquations.{LiveState, AreOpen, AreSettled, IsAmong, IsLiveLine, live_of}

true_or_false : (b : Bool) → (b ≡ true) ⊎ (b ≡ false)
true_or_false true = inl refl
true_or_false false = inr refl

module _ (lines : LiveState) (first second : Slab Line) (open_lines : AreOpen lines first) (settled_lines : AreSettled lines second)
    (line : Line) where
  pub live_among : IsAmong first second line ↔ IsLiveLine lines line
  live_among = (
    λ among. ⊎_elim
        (λ a. ((open_lines line).0 a).0)
        (λ b. ((settled_lines line).0 b).0)
        among,
    λ is. ⊎_elim
        (λ yes. inr ((settled_lines line).1 (is, yes)))
        (λ no. inl ((open_lines line).1 (is, no)))
        (true_or_false (set.contains lines.settled line.serial)),
  )

-- So what holds of the live ones holds of them.
module _ (parts : Parts) (holds : Holds (state_of parts)) (first second : Slab Line) (open_lines : AreOpen parts.lines first)
    (settled_lines : AreSettled parts.lines second) (line : Line) where
  pub within_among : IsAmong first second line → IsShape line.shape.offset line.shape.na × (line.base ≤ 2 ^ 62)
  within_among among =
      let is : IsLiveLine parts.lines line = (live_among parts.lines first second open_lines settled_lines line).0 among in
      let facts = holds.live line.serial (live_of line) is in
      (facts.shape, facts.base)

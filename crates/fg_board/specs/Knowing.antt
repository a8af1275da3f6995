-- What an admitter knows of its own desk. No public contract cites it.
use Rattle.std.specs.Prelude.{◌≡◌, ◌≤◌, ◌<◌, ◌^◌, false, ℕ, Option, IfSome, option_map}
use Rattle.fg_shape.specs.Shape.{position_limit}
use Rattle.fg_shape.specs.Playout.{Playout}
use Rattle.fg_playout.specs.State.{State, Top}
use Rattle.fg_board.specs.Actors.{AdmitterState, desk_of, IsOwnBoard}

-- The farthest position, its sequence number and its SSRC, as the desk has them.
abbrev pub top_of : Option (ℕ × ℕ × ℕ) → Option Top
top_of = option_map (λ t. record { position = t.0; seq = t.1; ssrc = t.2 })

-- It is told of a desk: its settings, its top, the SSRC of the run before, how many runs were begun, its mark and its calls.
pub record Knows
    (playout : Playout) (top : Option (ℕ × ℕ × ℕ)) (previous : Option ℕ) (runs mark calls : ℕ)
    (desk : State) : Type 0 where
  pub playout_is : desk.playout ≡ playout
  pub top_is : top_of top ≡ desk.top
  pub previous_is : previous ≡ desk.previous
  pub runs_is : runs ≡ desk.runs
  pub mark_is : mark ≡ desk.mark
  pub calls_is : calls ≡ desk.calls
  pub top_limit : IfSome desk.top (λ t. t.position ≤ position_limit)

-- What an admitter has between its calls.
pub record KnowsItsDesk
    (admitter : AdmitterState) (top : Option (ℕ × ℕ × ℕ)) (previous : Option ℕ)
    (runs mark calls : ℕ) : Type 0 where
  pub outside : admitter.seat.inside ≡ false
  pub window :
      (1 ≤ admitter.playout.window) × (admitter.playout.window ≤ 100)
      × (admitter.playout.window ≤ admitter.playout.depth)
  pub depth : admitter.playout.depth < 2 ^ 32
  pub own : IsOwnBoard admitter
  pub knows : Knows admitter.playout top previous runs mark calls (desk_of admitter)

-- When the positions of a flow are played: this project's own.
use Rattle.std.specs.Prelude.{◌≤◌, ℕ}

-- How a flow's playout is set.
pub record Playout : Type 0 where
  -- How many positions a play closes.
  pub window : ℕ
  -- How far past the first position that isn't played yet a media datagram makes a play due.
  pub depth : ℕ
  -- How long a received word may wait for its position to be closed, in microseconds by the times of the flow's datagrams. 0 where
  -- it may wait for ever.
  pub hold : ℕ

-- A window of 1 to 100 positions, and a depth from the window to 1000 positions.
pub record PlayoutFits (playout : Playout) : Type 0 where
  pub window : (1 ≤ playout.window) × (playout.window ≤ 100)
  pub depth : (playout.window ≤ playout.depth) × (playout.depth ≤ 1000)

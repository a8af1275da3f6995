-- What is kept of the parity that goes with media ports. No public contract cites what stands here.
use Rattle.std.specs.Prelude.{◌≡◌, ℕ, ◌<◌, max, List, get_or, length}
use Rattle.fg_survey.specs.declared.tally.Tally.{Tally}
use Rattle.fg_survey.specs.Matrix.{Protection, most_ahead, number_count, shape_count, straight_count}

-- There are so many counts, each of its place.
pub record AreCounts (counts : List ℕ) (n : ℕ) (count : ℕ → ℕ) : Type 0 where
  pub all : length counts ≡ n
  pub each : (place : ℕ) → place < n → get_or counts place 0 ≡ count place

-- These are counted.
pub record IsTally (tally : Tally) (columns rows : List Protection) : Type 0 where
  pub shapes : AreCounts tally.shapes.items 400 (shape_count columns)
  pub straight : AreCounts tally.straight.items 20 (straight_count rows)
  pub numbers : AreCounts tally.numbers.items 20 (number_count rows)
  pub columns_are : tally.columns ≡ length columns
  pub rows_are : tally.rows ≡ length rows
  pub ahead : tally.ahead ≡ max (most_ahead columns) (most_ahead rows)

-- Which records of an encoding may be asked to be left out: this project's own.
use Rattle.std.specs.Prelude.{◌≡◌, ◌≤◌, ◌⊎◌, length}
use Rattle.std.specs.List.{All}
use Rattle.fg_shape.specs.declared.encoding.Losses.{Losses}

-- At most 24,000 numbers; or each second record, or fewer, and at most 1,000 numbers. The first record's is never among
-- them.
pub record MayLose (losses : Losses) : Type 0 where
  pub numbers : All (λ number. 1 ≤ number) losses.drops
  pub few :
      ((losses.every ≡ 0) × (length losses.drops ≤ 24000)) ⊎ ((2 ≤ losses.every) × (length losses.drops ≤ 1000))

-- So they may be named on a command line: at most 1,000 numbers.
pub record LossesFit (losses : Losses) : Type 0 where
  pub may : MayLose losses
  pub named : length losses.drops ≤ 1000

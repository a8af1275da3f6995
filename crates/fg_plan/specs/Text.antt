-- What the planner writes: this project's own.
use Rattle.std.specs.Prelude.{ℕ, List, Option, Some, None, ◌++◌, codes}
use Rattle.std.specs.Fmt.{decimal}

-- The line that tells a choice.
abbrev pub choice_line : Option (ℕ × ℕ) → List ℕ
choice_line None = codes "none\n"
choice_line (Some matrix) = codes "columns " ++ decimal matrix.0 ++ codes " rows " ++ decimal matrix.1 ++ codes "\n"

-- How far an input is read for what is told of it: this project's own.
use Rattle.std.specs.Prelude.{◌≡◌, ◌⊎◌, ◌+◌, ◌<◌, ◌≤◌, ℕ, Option, None, Some, IfSome, Result, Ok, Err, List, [], ◌++◌, length}
use Rattle.fg_io.specs.declared.fault.Fault.{Fault}
use Rattle.fg_check.specs.declared.walk.Checked.{Checked}
use Rattle.fg_check.specs.declared.walk.Checked.TheVariants as told
use Rattle.fg_check.specs.Split.{IsSplit}

-- Line n is whole in these bytes.
pub record HasLine (bytes : List ℕ) (n : ℕ) : Type 0 where
  pub lines : List (List ℕ)
  pub rest : List ℕ
  pub split : IsSplit bytes lines rest
  pub there : n < length lines

-- These bytes were read and the rest is left, where this is told: all; line n with its line feed, or all; or past the limit.
abbrev pub ReachesForCheck : ℕ → Checked → List ℕ → List ℕ → Type 0
ReachesForCheck max told.Done read rest = rest ≡ []
ReachesForCheck max (told.Unproved i) read rest = rest ≡ []
ReachesForCheck max (told.NotCase n) read rest = HasLine read n ⊎ (rest ≡ [])
ReachesForCheck max (told.TooLong n) read rest = max < length read

-- An input of these bytes was read as far as the answer needs, once there is one, and never more than a byte past the limit.
pub record IsCheckReadFor (max : ℕ) (checked : Option Checked) (bytes : List ℕ) (now : Option (List ℕ)) : Type 0 where
  pub read : List ℕ
  pub rest : List ℕ
  pub now_is : now ≡ Some rest
  pub all : bytes ≡ read ++ rest
  pub reaches : IfSome checked (λ checked. ReachesForCheck max checked read rest)
  pub bounded : length read ≤ max + 1

-- The answer, where no fault came.
abbrev pub answer_of : Result Checked Fault → Option Checked
answer_of (Ok checked) = Some checked
answer_of (Err fault) = None

-- How far an input is read for what is answered: this project's own.
use Rattle.std.specs.Prelude.{◌≡◌, ◌+◌, ◌≤◌, ℕ, Option, None, Some, IfSome, Result, Ok, Err, List, ◌++◌, length}
use Rattle.fg_io.specs.declared.fault.Fault.{Fault}

-- The ending that a call answers, where no fault ends it.
abbrev pub ending_of : {E : Type 0} → Result E Fault → Option E
ending_of (Ok ending) = Some ending
ending_of (Err fault) = None

-- Of these bytes so many were read that `now` is left: as far as an ending needs, once one is told, and never more than a byte
-- past the limit.
pub record IsReadFor {E : Type 0} (Reaches : E → List ℕ → List ℕ → Type 0) (max : ℕ) (ending : Option E) (bytes : List ℕ) (now : Option (List ℕ)) : Type 0 where
  pub read : List ℕ
  pub rest : List ℕ
  pub now_is : now ≡ Some rest
  pub all : bytes ≡ read ++ rest
  pub reaches : IfSome ending (λ ending. Reaches ending read rest)
  pub bounded : length read ≤ max + 1

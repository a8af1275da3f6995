-- What becomes of bytes that wait to be written to a lane: this project's own.
use Rattle.std.specs.Prelude.{◌≡◌, ℕ, Option, List, [], ◌∷◌}
use Rattle.fg_io.specs.Outlet.{Lanes, Puts}

-- Where told: the port's lane has gained the bytes that waited. Where none waited, the lanes are as they were, since a put
-- of no bytes would make a lane.
abbrev pub Empties : List ℕ → Option Lanes → ℕ → Option Lanes → Type 0
Empties [] before port after = after ≡ before
Empties (byte ∷ more) before port after = Puts before port (byte ∷ more) after

-- The lanes of several ports: this project's own rule.
use Rattle.std.specs.Prelude.{◌≡◌, ℕ, Option, Some, IsSome, List, ◌++◌}
use Rattle.std.specs.List.{AllZip, Contains}
use Rattle.fg_io.specs.Prefix.{IsPrefix}
use Rattle.fg_io.specs.Outlet.{Lanes, lane_of, lane_bytes, WhereTold}

-- The lanes of all other ports are as they were.
abbrev pub OthersStay : List ℕ → Lanes → Lanes → Type 0
OthersStay ports before after = (other : ℕ) → ¬ Contains ports other → lane_of after other ≡ lane_of before other

-- Each port has a lane, which is what it was and then its piece. All others are as they were.
pub record LanesGain (before : Lanes) (ports : List ℕ) (pieces : List (List ℕ)) (after : Lanes) : Type 0 where
  pub lanes : AllZip (λ port piece. lane_of after port ≡ Some (lane_bytes before port ++ piece)) ports pieces
  pub others : OthersStay ports before after

-- The port's lane has gained a prefix of the piece, and is still there if it was.
pub record LaneGainsPart (before after : Lanes) (port : ℕ) (piece : List ℕ) : Type 0 where
  pub part : List ℕ
  pub front : IsPrefix part piece
  pub bytes : lane_bytes after port ≡ lane_bytes before port ++ part
  pub kept : IsSome (lane_of before port) → IsSome (lane_of after port)

-- Each port's lane has gained a prefix of its piece. All others are as they were.
pub record LanesGainPart (before : Lanes) (ports : List ℕ) (pieces : List (List ℕ)) (after : Lanes) : Type 0 where
  pub lanes : AllZip (LaneGainsPart before after) ports pieces
  pub others : OthersStay ports before after

-- Where the outlet tells its lanes: these, of the ports and their pieces.
abbrev pub PutsAll : Option Lanes → List ℕ → List (List ℕ) → Option Lanes → Type 0
PutsAll before ports pieces after = WhereTold (λ old new. LanesGain old ports pieces new) before after

abbrev pub PutsAllPart : Option Lanes → List ℕ → List (List ℕ) → Option Lanes → Type 0
PutsAllPart before ports pieces after = WhereTold (λ old new. LanesGainPart old ports pieces new) before after

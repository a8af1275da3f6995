-- The lanes of an outlet, one for each port: this project's own rule.
use Rattle.std.specs.Prelude.{◌≡◌, ◌≢◌, ℕ, Option, None, Some, IsSome, List, [], ◌++◌, ⊤, unwrap_or}
use Rattle.fg_io.specs.Prefix.{IsPrefix}

-- the bytes of each port's lane, and None where the port has no lane
abbrev pub Lanes : Type 0
Lanes = ℕ → Option (List ℕ)

-- the lane of the port
abbrev pub lane_of : Lanes → ℕ → Option (List ℕ)
lane_of lanes port = lanes port

-- the bytes of the port's lane; one that isn't there counts as empty
abbrev pub lane_bytes : Lanes → ℕ → List ℕ
lane_bytes lanes port = unwrap_or (lane_of lanes port) []

-- all lanes but this port's are as they were
abbrev pub OthersStay : Lanes → ℕ → Lanes → Type 0
OthersStay before port after = (other : ℕ) → other ≢ port → lane_of after other ≡ lane_of before other

-- the port has a lane, which is what it was and then the piece; all others are as they were
pub record LaneGains (before : Lanes) (port : ℕ) (piece : List ℕ) (after : Lanes) : Type 0 where
  pub lane : lane_of after port ≡ Some (lane_bytes before port ++ piece)
  pub others : OthersStay before port after

-- the port's lane has gained a prefix of the piece, and is still there if it was; all others are as they were
pub record LaneGainsPart (before : Lanes) (port : ℕ) (piece : List ℕ) (after : Lanes) : Type 0 where
  pub part : List ℕ
  pub front : IsPrefix part piece
  pub bytes : lane_bytes after port ≡ lane_bytes before port ++ part
  pub kept : IsSome (lane_of before port) → IsSome (lane_of after port)
  pub others : OthersStay before port after

-- the outlet tells its lanes before and after, and they are so related; or it tells them at neither time
abbrev pub WhereTold : (Lanes → Lanes → Type 0) → Option Lanes → Option Lanes → Type 0
WhereTold R (Some before) (Some after) = R before after
WhereTold R (Some before) None = ⊥
WhereTold R None (Some after) = ⊥
WhereTold R None None = ⊤

-- where told: the port's lane has gained the piece
abbrev pub Puts : Option Lanes → ℕ → List ℕ → Option Lanes → Type 0
Puts before port piece after = WhereTold (λ old new. LaneGains old port piece new) before after

-- where told: the port's lane has gained a prefix of the piece
abbrev pub PutsPart : Option Lanes → ℕ → List ℕ → Option Lanes → Type 0
PutsPart before port piece after = WhereTold (λ old new. LaneGainsPart old port piece new) before after

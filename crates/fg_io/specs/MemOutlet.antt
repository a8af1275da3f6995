-- An outlet in memory: this project's own rule.
use Rattle.std.specs.Prelude.{◌==◌, ℕ, ◌-◌, Option, None, List, length, find, unwrap_or}
use Rattle.std.specs.Option.{option_map, option_and_then}
use Rattle.fg_io.specs.Calls.{CallState}
use Rattle.fg_io.specs.Outlet.{Lanes, lane_bytes}

-- a listed port, how many bytes its lane takes in all, and its lane, if it has one
pub record KeeperState : Type 0 where
  pub port : ℕ
  pub room : ℕ
  pub lane : Option (List ℕ)

-- a port without a lane
abbrev pub empty_keeper : ℕ → ℕ → KeeperState
empty_keeper room port = record { port = port; room = room; lane = None }

-- the listed ports with their lanes, and the calls
pub record OutletState : Type 0 where
  pub keepers : List KeeperState
  pub calls : CallState

-- the first of the keepers that is the port's
abbrev pub keeper_of : List KeeperState → ℕ → Option KeeperState
keeper_of keepers port = find (λ keeper. keeper.port == port) keepers

-- the lanes of these keepers
abbrev pub keeper_lanes : List KeeperState → Lanes
keeper_lanes keepers port = option_and_then (λ keeper. keeper.lane) (keeper_of keepers port)

-- how many more bytes the lane of the port takes: none where the port is not listed
abbrev pub room_left : List KeeperState → ℕ → ℕ
room_left keepers port =
    unwrap_or (option_map (λ keeper. keeper.room) (keeper_of keepers port)) 0 - length (lane_bytes (keeper_lanes keepers) port)

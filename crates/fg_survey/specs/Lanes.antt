-- What is kept of the parity that goes with media ports. No public contract cites what stands here.
use Rattle.std.specs.Prelude.{◌≡◌, ◌≢◌, ℕ, ◌+◌, ◌<◌, ◌≤◌, ◌==◌, ⊤, Bool, false, None, Some, List, get_or, length, map}
use Rattle.std.specs.List.{list_any}
use Rattle.fg_survey.specs.declared.lanes.Lane.{Lane}
use Rattle.fg_survey.specs.declared.lanes.Lanes.{Lanes}
use Rattle.fg_survey.specs.declared.reading.Reading.{Reading}
use Rattle.fg_survey.specs.declared.reading.Reading.TheVariants.{Media, Parity, Other}
use Rattle.fg_survey.specs.Heard.{Heard, on_port}
use Rattle.fg_survey.specs.Matrix.{columns_on, has_stream, last_sender, rows_on}
use Rattle.fg_survey.specs.Senders.{senders_of}
use Rattle.fg_survey.specs.Tallies.{IsTally}

abbrev pub heard_as : ℕ → ℕ → List ℕ → Reading → Heard
heard_as time port datagram reading = record { time = time; port = port; datagram = datagram; reading = reading }

abbrev pub port_of : Lane → ℕ
port_of lane = lane.port

abbrev pub has_port : List ℕ → ℕ → Bool
has_port ports port = list_any (λ p. p == port) ports

-- A parity datagram has an offset and a number that are counted.
abbrev pub FitsCounts : Reading → Type 0
FitsCounts (Media seq ts ssrc) = ⊤
FitsCounts (Parity base offset number) = (1 ≤ offset) × (offset ≤ 20) × (1 ≤ number) × (number ≤ 20)
FitsCounts Other = ⊤

-- The lane of this port stands at this place.
pub record IsLaneAt (lanes : List Lane) (port place : ℕ) : Type 0 where
  pub within : place < length lanes
  pub there : (d : Lane) → (get_or lanes place d).port ≡ port

-- This is kept of a port: the sender of its last media datagram, and the parity after its first.
pub record IsLane (lane : Lane) (heard : List Heard) : Type 0 where
  pub last : last_sender (on_port lane.port heard) ≡ Some (record { port = lane.port; ssrc = lane.ssrc })
  pub tally_is : IsTally lane.tally (columns_on lane.port heard) (rows_on lane.port heard)

-- No two lanes are of one port.
abbrev pub AreApart : List Lane → Type 0
AreApart lanes = (i j : ℕ) → i < j → j < length (map port_of lanes)
    → get_or (map port_of lanes) i 0 ≢ get_or (map port_of lanes) j 0

-- This is kept of each lane so many ports below this one.
abbrev pub AreLanesBelow : List Lane → ℕ → ℕ → List Heard → Type 0
AreLanesBelow lanes below port heard = (i : ℕ) (d : Lane) → i < length lanes → (get_or lanes i d).port + below ≡ port
    → IsLane (get_or lanes i d) heard

-- There is a place for each port, and one whose place is 0 has no lane.
pub record ArePlaces (places : List ℕ) (lanes : List Lane) : Type 0 where
  pub all : length places ≡ 65536
  pub none : (port : ℕ) → port < 65536 → get_or places port 0 ≡ 0 → has_port (map port_of lanes) port ≡ false

-- Each port with a stream that is told has its lane, and where there is room for streams no other port has had a media datagram.
pub record AreLanes (lanes : List Lane) (heard : List Heard) : Type 0 where
  pub each : (i : ℕ) (d : Lane) → i < length lanes → IsLane (get_or lanes i d) heard
  pub told : (port : ℕ) → has_port (map port_of lanes) port ≡ has_stream (senders_of heard) port
  pub quiet : (port : ℕ) → has_port (map port_of lanes) port ≡ false → length (senders_of heard) < 256
      → last_sender (on_port port heard) ≡ None
  pub distinct : AreApart lanes

-- The lanes, each to be found.
pub record KeepsLanes (lanes : Lanes) (heard : List Heard) : Type 0 where
  pub are : AreLanes lanes.lanes.items heard
  pub places : ArePlaces lanes.places.items lanes.lanes.items

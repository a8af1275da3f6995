-- Who works at the boards of a repair. No public contract cites what stands here.
use Rattle.std.specs.Prelude.{◌≡◌, ◌<◌, ◌≤◌, ℕ, List, length, map}
use Rattle.std.specs.List.{All}
use Rattle.fg_shape.specs.Playout.{Playout}
use Rattle.fg_playout.specs.State.{opening}
use Rattle.fg_playout.specs.Admission.{live_limit}
use Rattle.fg_flows.specs.declared.Plan.{Plan}
use Rattle.fg_flows.specs.Plan.{playout_of}
use Rattle.fg_board.specs.Actors.{desk_of}
use Rattle.fg_workers.specs.declared.post.Post.{Post}
use Rattle.fg_workers.specs.declared.post.Host.{Host}
use Rattle.fg_workers.specs.declared.post.Crew.{Crew}

-- The hosts are those of the posts, in their order.
abbrev pub HostAll : List Post → List Host → Type 0
HostAll posts hosts = map (λ host. host.admitter.seat.turn) hosts ≡ map (λ post. post.board.name) posts

-- A host has admitted nothing, and its tray holds a window.
pub record IsNewHost (playout : Playout) (host : Host) : Type 0 where
  pub desk : desk_of host.admitter ≡ opening playout
  pub tray : host.admitter.playout.window ≤ host.tray.window

-- The post's board has a seat for each tally, beside that of the admitter.
abbrev pub HasSeats : Post → Type 0
HasSeats post = live_limit < post.board.seats

-- The host has made no pass.
abbrev pub HasNoPass : Host → Type 0
HasNoPass host = host.admitter.seat.made ≡ 0

-- The hosts of a repair by this plan, before the first record.
pub record CanBegin (plan : Plan) (posts : List Post) (hosts : List Host) : Type 0 where
  pub count : length hosts ≡ length plan.table
  pub host_all : HostAll posts hosts
  pub new_hosts : All (IsNewHost (playout_of plan)) hosts

-- The first flows of the plan have their posts, each with a host and with seats for the tallies, of which none is taken.
pub record IsCrew (plan : Plan) (count : ℕ) (crew : Crew) : Type 0 where
  pub posts : length crew.posts.items ≡ count
  pub hosts : HostAll crew.posts.items crew.hosts.items
  pub new_hosts : All (IsNewHost (playout_of plan)) crew.hosts.items
  pub seats : All HasSeats crew.posts.items
  pub no_passes : All HasNoPass crew.hosts.items
  pub workers : length crew.owns.items ≡ plan.workers

-- What the table of ports holds. No public contract cites it.
use Rattle.std.specs.Prelude.{◌≡◌, ◌⊎◌, ◌↔◌, ◌<◌, ℕ, Bool, false, IsTrue, List, length, slice_index_or}
use Rattle.fg_shape.specs.declared.kind.Kind.{Kind}
use Rattle.fg_shape.specs.Kind.{port_of}
use Rattle.fg_flows.specs.declared.selection.Selection.{Selection}
use Rattle.fg_pick.specs.Picked.{PicksPort}

-- The port is one of the flow's three.
abbrev pub IsPortOf : ℕ → ℕ → Type 0
IsPortOf flow port = (kind : Kind) × (port_of flow kind ≡ port)

-- Beside the entries that were marked, those of these ports are.
pub record Marks (Are : ℕ → Type 0) (old new : List Bool) : Type 0 where
  pub as_many : length new ≡ length old
  pub right : (port : ℕ) → port < length old
      → IsTrue (slice_index_or new port false) ↔ (IsTrue (slice_index_or old port false) ⊎ Are port)

-- An entry for each port, which tells whether it is picked.
pub record IsPortTable (selection : Selection) (entries : List Bool) : Type 0 where
  pub entry_each : length entries ≡ 65536
  pub right : (port : ℕ) → port < 65536 → IsTrue (slice_index_or entries port false) ↔ PicksPort selection port

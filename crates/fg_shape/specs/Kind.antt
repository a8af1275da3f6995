-- The three streams of a flow (SMPTE ST 2022-1): media, and two streams of parity on ports above it.
use Rattle.std.specs.Prelude.{◌+◌, ◌≤◌, ℕ}
use Rattle.fg_shape.specs.declared.kind.TheConstants.{LAST_PORT}
use Rattle.fg_shape.specs.declared.kind.Kind.{Kind}
use Rattle.fg_shape.specs.declared.kind.Kind.TheVariants.{Media, Column, Row}

-- The port of each kind of datagram of a flow, which is named by the port of its media: parity of columns goes two
-- above it, and parity of rows four above it.
abbrev pub port_of : ℕ → Kind → ℕ
port_of flow Media = flow
port_of flow Column = flow + 2
port_of flow Row = flow + 4

-- A flow's own port, which leaves room for the ports above it.
abbrev pub IsFlowPort : ℕ → Type 0
IsFlowPort flow = (1 ≤ flow) × (flow ≤ LAST_PORT)

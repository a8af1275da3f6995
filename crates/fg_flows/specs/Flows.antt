-- Which UDP port belongs to which flow.
use Rattle.std.specs.Prelude.{◌≡◌, ◌<◌, ◌≤◌, ℕ, List, length, slice_index}
use Rattle.fg_shape.specs.declared.kind.Kind.{Kind}
use Rattle.fg_shape.specs.Kind.{IsFlowPort, port_of}
use Rattle.fg_flows.specs.declared.FlowFault.{FlowFault}
use Rattle.fg_flows.specs.declared.FlowFault.TheVariants.{NoFlow, TooMany, Port, Clash}
use Rattle.fg_flows.specs.declared.TableFault.{TableFault}
use Rattle.fg_flows.specs.declared.TableFault.TheVariants.{Memory, Flow}

-- The port is that of this kind of the flow with this number. Flows are listed by their own ports.
abbrev pub IsPortOf : List ℕ → ℕ → ℕ → Kind → Type 0
IsPortOf flows port i kind = (i < length flows) × (port_of (slice_index flows i) kind ≡ port)

-- The flows i and j have a port in common.
abbrev pub SharePort : List ℕ → ℕ → ℕ → Type 0
SharePort flows i j = (a b : Kind) × (port_of (slice_index flows i) a ≡ port_of (slice_index flows j) b)

-- A flow with a port of its own that shares none with an earlier flow.
pub record IsGoodFlow (flows : List ℕ) (i : ℕ) : Type 0 where
  pub in_range : IsFlowPort (slice_index flows i)
  pub apart : (j : ℕ) → j < i → ¬ SharePort flows j i

-- The lists of flows that a table may have: 1 to 64 good ones. The limit is this project's own.
pub record IsTable (flows : List ℕ) : Type 0 where
  pub some_flow : 1 ≤ length flows
  pub limit : length flows ≤ 64
  pub good : (i : ℕ) → i < length flows → IsGoodFlow flows i

-- The list has 1 to 64 flows, and those before i are good.
pub record AreGoodBefore (flows : List ℕ) (i : ℕ) : Type 0 where
  pub some_flow : 1 ≤ length flows
  pub limit : length flows ≤ 64
  pub within : i < length flows
  pub good : (j : ℕ) → j < i → IsGoodFlow flows j

-- The first rule that a list of flows breaks: its length, and then by the least number of a flow that is
-- not good, the flow's own port before its clash with an earlier flow.
abbrev pub FirstFlowFault : List ℕ → FlowFault → Type 0
FirstFlowFault flows NoFlow = length flows ≡ 0
FirstFlowFault flows TooMany = 64 < length flows
FirstFlowFault flows (Port i) = AreGoodBefore flows i × (¬ IsFlowPort (slice_index flows i))
FirstFlowFault flows (Clash i) =
    AreGoodBefore flows i × IsFlowPort (slice_index flows i) × ((j : ℕ) × (j < i) × SharePort flows j i)

-- Why there is no table of these flows. Want of memory has no cause.
abbrev pub IsTableFault : List ℕ → TableFault → Type 0
IsTableFault flows Memory = Unit {0}
IsTableFault flows (Flow fault) = FirstFlowFault flows fault

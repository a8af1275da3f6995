-- Laws of the flows.
use Rattle.std.specs.Prelude.{◌≡◌, ℕ, List}
use Rattle.fg_shape.specs.declared.kind.Kind.{Kind}
use Rattle.fg_flows.specs.declared.FlowFault.{FlowFault}
use Rattle.fg_flows.specs.Flows.{FirstFlowFault, IsPortOf, IsTable}

-- A port belongs to at most one flow of a table, as one kind.
abbrev pub OneFlowHasAPort : Type 0
OneFlowHasAPort =
    (flows : List ℕ) (port i j : ℕ) (a b : Kind)
    → IsTable flows → IsPortOf flows port i a → IsPortOf flows port j b → (i ≡ j) × (a ≡ b)

-- A list of flows that a table may have breaks no rule, and another breaks at most one first.
abbrev pub TablesHaveNoFault : Type 0
TablesHaveNoFault = (flows : List ℕ) (fault : FlowFault) → IsTable flows → FirstFlowFault flows fault → ⊥

abbrev pub OneFlowFault : Type 0
OneFlowFault =
    (flows : List ℕ) (a b : FlowFault) → FirstFlowFault flows a → FirstFlowFault flows b → a ≡ b

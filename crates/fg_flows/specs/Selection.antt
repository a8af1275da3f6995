-- What a pick may be told.
use Rattle.std.specs.Prelude.{◌≤◌, length}
use Rattle.std.specs.List.{All}
use Rattle.fg_shape.specs.Kind.{IsFlowPort}
use Rattle.fg_flows.specs.declared.selection.Selection.{Selection}

-- Flows that leave room for the ports above them. At most 64 flows, 64 ports, and 16 synchronization sources to leave and to
-- leave out. The limits are this project's own.
pub record SelectionFits (selection : Selection) : Type 0 where
  pub flows : All IsFlowPort selection.flows
  pub few_flows : length selection.flows ≤ 64
  pub few_ports : length selection.ports ≤ 64
  pub few_sources : length selection.sources ≤ 16
  pub few_without : length selection.without ≤ 16

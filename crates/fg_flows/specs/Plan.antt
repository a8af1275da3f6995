-- What a repair may be told.
use Rattle.std.specs.Prelude.{◌≤◌, ◌^◌}
use Rattle.fg_shape.specs.Playout.{Playout, PlayoutFits}
use Rattle.fg_flows.specs.declared.Plan.{Plan}
use Rattle.fg_flows.specs.Flows.{IsTable}

-- How the plan sets the playout of each flow.
abbrev pub playout_of : Plan → Playout
playout_of plan = record { window = plan.window; depth = plan.depth; hold = plan.hold }

-- A table of flows, a playout that may be set, up to 16 workers, and 8 to 2^42 bytes. The limits are this project's own.
pub record PlanFits (plan : Plan) : Type 0 where
  pub table : IsTable plan.table
  pub playout : PlayoutFits (playout_of plan)
  pub workers : plan.workers ≤ 16
  pub max : (8 ≤ plan.max) × (plan.max ≤ 2 ^ 42)

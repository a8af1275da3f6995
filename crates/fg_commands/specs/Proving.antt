-- What `prove` is for: this project's own.
use Rattle.std.specs.Prelude.{◌≡◌, length}
use Rattle.fg_flows.specs.declared.Plan.{Plan}
use Rattle.fg_flows.specs.Plan.{PlanFits}
use Rattle.fg_prove.specs.Proved.{Proves, ProvesPart}
use Rattle.fg_commands.specs.Filter.{Filter, of_trace}

-- A plan fits, and has one flow.
abbrev pub CanProve : Plan → Type 0
CanProve plan = PlanFits plan × (length plan.table ≡ 1)

-- The cases of the gaps of the plan's one flow are written, and the answer is that of the trace's ending.
abbrev pub proving : Plan → Filter
proving plan = of_trace plan.max (Proves plan) (ProvesPart plan)

-- What contracts see of a flow.
use Rattle.std.specs.Prelude.{refl}
use Rattle.std.specs.Coded.{Coded, code_by, coded×}
use Rattle.std.specs.FinMap as map
use Rattle.std.specs.FinSet.{empty}
use Rattle.fg_desk.specs.Contents.{Contents}
use Rattle.fg_desk.specs.Inside.{contents_code}
use Rattle.fg_playout.specs.State.{State}
use Rattle.fg_report.specs.declared.flow_sum.FlowSum.{FlowSum}
use Rattle.fg_report.specs.contracts.flow_sum.FlowSum.{the_row}

-- The state of its desk, and what is counted of it.
pub record FlowView : Type 0 where
  pub state : State
  pub sum : FlowSum

-- How these are told apart: a state as a desk's that holds nothing else.
abbrev pub state_code : Coded State
state_code =
    code_by Contents contents_code (λ state. record { state = state; solved = map.empty; bare = empty; repaired = empty; epoch = 0 })
    (λ desk. desk.state) (λ _. refl)

abbrev pub view_code : Coded FlowView
view_code =
    code_by (State × FlowSum) (coded× state_code the_row.coded) (λ flow. (flow.state, flow.sum)) (λ p. record { state = p.0; sum = p.1 })
    (λ _. refl)

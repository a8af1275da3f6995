use Rattle.fg_shape.proofs.LimitLemmas as limits
use Rattle.fg_shape.proofs.laws.one_layout_fault.Goals as goal

pub returns-clause-none : goal.returns-clause-none
returns-clause-none c = limits.no_layout_fault

pub returns-clause-one : goal.returns-clause-one
returns-clause-one c = limits.one_layout_fault

use Rattle.fg_cli.proofs.Faults.{one_fault}
use Rattle.fg_cli.proofs.Lines.{one_line}
use Rattle.fg_cli.proofs.Readings.{reading_has_no_fault}
use Rattle.fg_cli.proofs.SameOrders as orders
use Rattle.fg_cli.proofs.laws.one_reading.Goals as goal

pub returns-clause-line : goal.returns-clause-line
returns-clause-line c = one_line

pub returns-clause-reading : goal.returns-clause-reading
returns-clause-reading c = orders.one_reading

pub returns-clause-no_fault : goal.returns-clause-no_fault
returns-clause-no_fault c = reading_has_no_fault

pub returns-clause-fault : goal.returns-clause-fault
returns-clause-fault c = one_fault

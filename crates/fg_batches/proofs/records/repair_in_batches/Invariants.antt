use Rattle.fg_batches.proofs.records.repair_in_batches.Given as goal

abbrev pub ghosts-take_in_batches : goal.ghosts-take_in_batches
ghosts-take_in_batches g a = record { table = a.plan.now.table }

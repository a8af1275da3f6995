use Rattle.std.proofs.Common.{take}
use Rattle.fg_flows.specs.Sheaf.{items_of}
use Rattle.fg_batches.specs.Batches.{HasRun}
use Rattle.fg_batches.proofs.flows.BatchFlow.run_items.Given as goal

abbrev pub invariant-loop-k : goal.invariant-loop-k
invariant-loop-k g l = HasRun (take l.k (items_of l.sheaf l.index)) l.fn.self l.self

use Rattle.fg_batches.proofs.Exchanged.{FirstExchanged}
use Rattle.fg_batches.proofs.emptying.exchange.Given as goal

abbrev pub invariant-loop-k : goal.invariant-loop-k
invariant-loop-k g l = FirstExchanged l.k l.fn.flows l.flows l.fn.shelves l.shelves

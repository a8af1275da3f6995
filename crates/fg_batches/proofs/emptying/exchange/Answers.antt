use Rattle.std.proofs.Common.{◌<◌, ℕ, List, length, ap, arith, slice_index_or}
use Rattle.std.proofs.lemmas.List.{get_or_default}
use Rattle.fg_engine.specs.declared.shelved.Shelved.{Shelved}
use Rattle.fg_batches.specs.BatchView.{BatchView}
use Rattle.fg_batches.proofs.Exchanged.{exchanged_more}
use Rattle.fg_batches.proofs.emptying.exchange.Goals as goal

pub loop-k-preserved : goal.loop-k-preserved
loop-k-preserved g c =
    let i = c.loop-k.k in
    let flows = c.loop-k.flows in
    let shelves = c.loop-k.shelves in
    let h = c.loop-k.invariant in
    let inside : i < length flows = omega (arith, h.flows_long, c.loop-k-test.true) in
    let within : i < length shelves = omega (arith, inside, h.flows_long, h.shelves_long, c.requires) in
    let x : BatchView = slice_index_or flows i c.index-flows-k.result in
    let s : Shelved = slice_index_or shelves i c.index-shelves-k.result in
    let t : Shelved = record { port = s.port; shelf = c.exchange_shelf.new.shelf } in
    exchanged_more i c.args.flows.now flows c.args.shelves.now shelves x s inside within
    (get_or_default flows i c.index-flows-k.result x inside) (get_or_default shelves i c.index-shelves-k.result s within) h
    c.exchange_shelf.new.self t c.exchange_shelf.ensures.flow
    (ap (λ (bytes : List ℕ). record { port = s.port; shelf = bytes }) c.exchange_shelf.ensures.shelf)

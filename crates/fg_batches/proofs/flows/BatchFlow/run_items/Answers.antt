use Rattle.std.proofs.Common.{◌≡◌, List, length, take, subst, arith}
use Rattle.std.proofs.lemmas.List.{length-take-le, take_all}
use Rattle.fg_flows.specs.Sheaf.{Item, items_of}
use Rattle.fg_batches.specs.Batches.{HasRun}
use Rattle.fg_batches.proofs.Runs.{ran_none, ran_more, can_go_on}
use Rattle.fg_batches.proofs.flows.BatchFlow.run_items.Goals as goal

pub loop-k-init : goal.loop-k-init
loop-k-init g c = ran_none c.args.self.now

pub run_item-requires : goal.run_item-requires
run_item-requires g c =
    let items = items_of c.args.sheaf.now c.args.index in
    let k = c.loop-k.k in
    let long : length (take k items) ≡ k = length-take-le k items (omega arith) in
    can_go_on (take k items) c.args.self.now c.loop-k.self (length items) 1 (omega arith) c.requires.can c.loop-k.invariant

pub loop-k-preserved : goal.loop-k-preserved
loop-k-preserved g c =
    let item : Item = record { kind = c.item-kind.result.0; time = c.item-kind.result.1; payload = c.item-kind.result.2.now } in
    ran_more (items_of c.args.sheaf.now c.args.index) c.loop-k.k item c.args.self.now c.loop-k.self c.run_item.new.self c.item-kind.ensures c.loop-k.invariant
    c.in_ok-run_item.ensures

pub returns : goal.returns
returns g c =
    let items = items_of c.args.sheaf.now c.args.index in
    subst (λ (some : List Item). HasRun some c.args.self.now c.loop-k.self) (take_all c.loop-k.k items (omega arith)) c.loop-k.invariant

use Rattle.std.proofs.Common.{◌≡◌, []}
use Rattle.std.specs.Global.{Vec}
use Rattle.std.specs.List.{AllWithin}
use Rattle.fg_flows.specs.declared.sheaf.Entry.{Entry}
use Rattle.fg_flows.specs.Entries.{HaveRoom}
use Rattle.fg_flows.proofs.sheaf.clear_flows.Given as goal

abbrev pub invariant-loop-flow : goal.invariant-loop-flow
invariant-loop-flow l = record {
  room : HaveRoom l.flows;
  empty : AllWithin (λ (entries : Vec Entry). entries.items ≡ []) l.flows 0 l.flow-index;
}

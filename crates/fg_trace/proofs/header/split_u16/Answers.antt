use Rattle.std.proofs.Common.{arith}
use Rattle.fg_trace.proofs.Fields.{two_bytes}
use Rattle.fg_trace.proofs.header.split_u16.Goals as goal

pub returns-clause-found : goal.returns-clause-found
returns-clause-found c =
    let cut = c.in_ok-first.ensures.cases in
    two_bytes c.args.bytes.now c.in_ok-first.first.now c.in_ok-first.rest.now c.from_be_bytes.result (λ i. omega (arith, c.type_inv.bytes i)) cut.0 cut.1 cut.2 c.from_be_bytes.ensures

use Rattle.std.proofs.Common.{ap, subst, arith, length, length-append}
use Rattle.fg_crew_tests.specs.Examples.{WasSeen}
use Rattle.fg_crew_tests.specs.ExampleLaws.{seen_last}
use Rattle.fg_crew_tests.proofs.turn.stock.look_twice.Goals as goal

pub returns-clause-fewer : goal.returns-clause-fewer
returns-clause-fewer g c =
    let first = c.enter-stock.result.items.items in
    let second = c.enter-stock-2.result.items.items in
    let less = seen_last c.enter-stock.new.seat.told first second (subst (λ s. WasSeen s.told second) c.leave.ensures c.enter-stock-2.ensures.grows) in
    let n = ap length less.1 in
    let m = length-append second less.0 in
    let a = c.len-first.ensures in
    let b = c.len-second.ensures in
    omega arith

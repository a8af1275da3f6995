use Rattle.std.proofs.Common.{◌<◌, drop, inr, length, rules, arith}
use Rattle.std.proofs.lemmas.Grind.{common_steps}
use Rattle.fg_thin.specs.ThinnedSource.{thinned_trace}
use Rattle.fg_drill.proofs.DrillReading.{last_tells}
use Rattle.fg_run.proofs.drill.ending.Goals as goal

pub returns-in-Ok-clause-tells : goal.returns-in-Ok-clause-tells
returns-in-Ok-clause-tells g c =
    let source = c.args.source.now in
    let some : 0 < length c.read.new.into = first_of (search (rules), grind (arith, common_steps)) in
    rw c.answer_for.ensures (inr (last_tells (λ bytes. drop source.given (thinned_trace source.settings source.losses source.max bytes)) source.stream _
    c.read.new.into c.in-Ok.field-0 c.read.new.self.told c.read.new.self.fault c.fault.result
    c.in-Ok.ensures.gives c.requires c.in-Ok.ensures.bound (c.in-Ok.ensures.tells some).0 c.fault.ensures.same))

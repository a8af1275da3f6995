use Rattle.std.proofs.Common.{◌≡◌, Option, Some, Bor, IfSome, subst}
use Rattle.std.specs.FinMap.{get}
use Rattle.fg_peel.specs.declared.Line.{Line}
use Rattle.fg_buffer.specs.LiveEquations.{live_of}
use Rattle.fg_core.proofs.open.equation_at.Goals as goal

pub returns-clause-readable : goal.returns-clause-readable
returns-clause-readable c =
    let line : Line = c.unwrap-line.result.now in
    let found = subst (λ (o : Option (Bor Line)). IfSome o (λ line.
    (get c.args.desk.now.state.equations line.now.serial ≡ Some (live_of line.now)) × (line.now.place ≡ c.args.key.place)))
    c.unwrap-line.ensures c.line.ensures.some in
    let read = c.facts.ensures.facts.live line.serial (live_of line) found.0 in
    (read.shape, read.base)

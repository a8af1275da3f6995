-- What a read copies is the front of what is left, and the place moves past it.
use Rattle.std.proofs.Common.{◌<◌, ◌+◌, Some, length, sym, ap, ◌∙◌, arith}
use Rattle.std.proofs.lemmas.Grind.{common_steps}
use Rattle.std.proofs.lemmas.List.{drop_all}
use Rattle.fg_io.proofs.PieceLemmas.{gave, left_count}
use Rattle.fg_io.proofs.safe.SafeSourceSource.read.Goals as goal

pub returns-clause-gives : goal.returns-clause-gives
returns-clause-gives c =
    let items = c.self.inside.bytes.items in
    let count = left_count items c.deref.result.now c.self.inside.given c.deref.ensures.value in
    ap (λ bytes. Some bytes) (ap (λ source. source.left) (sym c.self.view_is)
    ∙ gave items c.deref.result.now c.copy_from_slice.new.self _ c.self.inside.given c.min-count.result c.deref.ensures.value
    (omega (arith, count)) c.copy_from_slice.ensures.after)

pub returns-clause-end : goal.returns-clause-end
returns-clause-end c =
    λ none room. let count = left_count c.self.inside.bytes.items c.deref.result.now c.self.inside.given c.deref.ensures.value in
    let some : 0 < length c.args.into.now = grind (arith, common_steps, c.copy_from_slice.ensures.len, room) in
    drop_all (c.self.inside.given + c.min-count.result) c.self.inside.bytes.items (omega (arith, count))
